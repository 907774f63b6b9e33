-- What the records of a module say, and what several modules say of their world. (This project's own.)
use Rattle.std.specs.Prelude.{ℕ, List, [], ◌∷◌, Result, Ok}
use Rattle.core_sections.specs.Stripping.{stripped}
use Rattle.json_paths.specs.declared.fault.Failure.{Failure as RecordFailure}
use Rattle.json_paths.specs.Faults.{◌>>=◌ as ◌>>>=◌}
use Rattle.record_merge.specs.declared.bindgen.Bindgen.{Bindgen}
use Rattle.record_merge.specs.ModuleRecords.{bindgen_of}
use Rattle.records.specs.Records.{record_in}
use Rattle.record_values.specs.declared.record.Record.{Record}
use Rattle.record_faults.specs.declared.fault.Failure.{Failure}
use Rattle.gathered_worlds.specs.Equalities.{tests, role_tests}
use Rattle.record_faults.specs.Faults.{◌>>=◌, lifted, read}

-- the records that texts encode
abbrev pub records_in : List (List ℕ) → Result (List Record) RecordFailure
records_in [] = Ok []
records_in (text ∷ texts) = record_in text >>>= λ r. records_in texts >>>= λ rs. Ok (r ∷ rs)

-- what the records together say
unfoldable pub said_in : List (List ℕ) → Result Bindgen RecordFailure
said_in texts = records_in texts >>>= λ rs. bindgen_of tests role_tests rs

-- a module without its records, and what they say
unfoldable pub decoding : List ℕ → Result (List ℕ × Bindgen) Failure
decoding bytes = do
  s ← lifted (stripped bytes)
  b ← read (said_in s.1)
  Ok (s.0, b)
