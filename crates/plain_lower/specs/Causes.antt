-- When each fault is right: what is wrong with the bytes, with the records or with what was
-- gathered. (The record is this project's own; what is required of the bytes is from the core
-- standard's binary format.)
use Rattle.std.specs.Prelude.{◌≡◌, ℕ, true, List, ◌++◌, Ok, Err, Contains}
use Rattle.std.specs.List.{AllZip}
use Rattle.core_sections.specs.Sections.{Piece, preamble}
use Rattle.core_sections.specs.Stripping.{removed, is_package}
use Rattle.core_sections.specs.Grammar.{IsModule, IsCutAt}
use Rattle.record_faults.specs.declared.fault.PlainFault.{PlainFault}
use Rattle.record_faults.specs.declared.fault.PlainFault.TheVariants as faults
use Rattle.record_faults.specs.Faults.{flat_refusal, of_record_refusal}
use Rattle.record_merge.specs.Causes.{RecordsConflict}
use Rattle.record_merge.specs.Tables.{conflict as conflict_of}
use Rattle.json_paths.specs.declared.fault.Failure.{Failure as RecordFailure}
use Rattle.json_paths.specs.declared.fault.Failure.TheVariants as record_failures
use Rattle.json_paths.specs.declared.fault.Refusal.{Refusal as RecordRefusal}
use Rattle.records.specs.Records.{record_in}
use Rattle.record_values.specs.declared.record.Record.{Record}
use Rattle.plain_lower.specs.ModuleRecords.{records_in}

-- one of the module's records has this text
pub record IsRecord (bytes text : List ℕ) : Type 0 where
  pub pieces : List Piece
  pub whole : IsModule bytes pieces
  pub there : Contains (removed pieces) text

-- all records of a module: those in its sections that describe a component, in order
pub record AreRecords (bytes : List ℕ) (records : List Record) : Type 0 where
  pub pieces : List Piece
  pub whole : IsModule bytes pieces
  pub read : AllZip (λ text r. record_in text ≡ Ok r) (removed pieces) records

-- why the records in these texts can't be merged: one is malformed, or they say different things of a name
pub data SaidCause (texts : List (List ℕ)) (e : RecordFailure) : Type 0 where
  misread : records_in texts ≡ Err e → SaidCause texts e
  conflicting : (records : List Record) (name : List ℕ) → records_in texts ≡ Ok records → RecordsConflict records name → e ≡ conflict_of name → SaidCause texts e

-- these texts are records, and no name is in conflict among them
pub record AreApart (texts : List (List ℕ)) : Type 0 where
  pub records : List Record
  pub are_read : records_in texts ≡ Ok records
  pub no_conflict : (name : List ℕ) → RecordsConflict records name → ⊥

pub data DecodeCause (bytes : List ℕ) : PlainFault → Type 0 where
  -- the bytes don't begin as a core module does
  not_module : ((rest : List ℕ) → bytes ≡ preamble ++ rest → ⊥) → DecodeCause bytes faults.NotModule
  -- no section begins at this offset after whole ones
  cut : (place : ℕ) → IsCutAt bytes place → DecodeCause bytes (faults.Section place)
  -- instead of a record there is a binary component
  binary : (text : List ℕ) → IsRecord bytes text → is_package text ≡ true → DecodeCause bytes faults.PackageBinary
  -- a record is malformed, and this is why
  misspelt : (text : List ℕ) (r : RecordRefusal) → IsRecord bytes text → record_in text ≡ Err (record_failures.Refused r) → DecodeCause bytes (flat_refusal (of_record_refusal r))
  -- the records say different things of this name
  conflict : (records : List Record) (name : List ℕ) → AreRecords bytes records → RecordsConflict records name → DecodeCause bytes (faults.MergeConflict name)
