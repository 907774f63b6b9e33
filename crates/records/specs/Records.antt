-- The record, version 1: what a text says of a core module and its component.
--
-- An object with the members `version` (1), `encoding` (the string encoding of all functions:
-- "utf8", "utf16" or "compact", and "utf8" where it is left out), `context-slot-1` (whether the
-- task's second slot of storage is free), `interfaces`, `imports` and `exports` (the world),
-- `core-imports` (a list of {"module", "field", "role"}) and `core-exports` (a list of {"field",
-- "role"}). All but `version` may be left out.
use Rattle.std.specs.Prelude.{⊤, ℕ, ◌==◌, List, [], ◌∷◌, codes, Bool, Option, Some, None, option_and_then, Result, Ok, Err, if◌then◌else◌}
use Rattle.serde_json.specs.Data.{Data}
use Rattle.serde_json.specs.Find.{get, as_number, as_u64}
use Rattle.standard_kinds.specs.declared.kinds.StringEncoding.{StringEncoding}
use Rattle.standard_kinds.specs.declared.kinds.StringEncoding.TheVariants as encodings
use Rattle.json_paths.specs.declared.fault.Failure.{Failure}
use Rattle.json_paths.specs.Faults.{◌>>=◌}
use Rattle.json_paths.specs.Reading.{under, at_member, bool_if, only, data_of}
use Rattle.record_values.specs.declared.record.Record.{Record}
use Rattle.record_sides.specs.declared.indexed.RecordWorld.{RecordWorld}
use Rattle.record_worlds.specs.Worlds.{world_of}
use Rattle.record_sides.specs.Arguments.{encoding_of}
use Rattle.record_import_roles.specs.CoreImports.{core_imports_if}
use Rattle.record_import_roles.specs.Payloads.{all_met}
use Rattle.record_export_roles.specs.CoreExports.{core_exports_if}
use Rattle.records.specs.Equalities.{same_interface}

-- the one version that is supported
abbrev pub version_from : Option ℕ → Result ⊤ Failure
version_from None = Err (at_member (codes "version"))
version_from (Some n) = if n == 1 then Ok tt else Err (at_member (codes "version"))

abbrev pub version_of : Data → Result ⊤ Failure
version_of d = version_from (option_and_then as_u64 (option_and_then as_number (get (codes "version") d)))

abbrev pub encoding_if : Option Data → Result StringEncoding Failure
encoding_if None = Ok encodings.UTF8
encoding_if (Some v) = under (codes "encoding") (encoding_of v)

-- the members that are known
unfoldable pub only_known : Data → Result ⊤ Failure
only_known d =
    only (codes "version" ∷ codes "encoding" ∷ codes "context-slot-1" ∷ codes "interfaces" ∷ codes "imports" ∷ codes "exports" ∷ codes "core-imports" ∷ codes "core-exports" ∷ []) d

-- what the record says besides its world, from its members `core-imports` and `core-exports`
unfoldable pub with_world : StringEncoding → Bool → Option Data → Option Data → RecordWorld → Result Record Failure
with_world e slot imports exports w = do
  is ← core_imports_if w (all_met w.wit) imports
  es ← core_exports_if w exports
  Ok (record { wit = w.wit; encoding = e; context_slot_1 = slot; import_roles = is; export_roles = es })

-- the same, where the world could be read
abbrev pub with_parts : StringEncoding → Bool → Option Data → Option Data → Result RecordWorld Failure → Result Record Failure
with_parts e slot imports exports world = do
  w ← world
  with_world e slot imports exports w

unfoldable pub record_of : Data → Result Record Failure
record_of d = do
  _ ← only_known d
  _ ← version_of d
  e ← encoding_if (get (codes "encoding") d)
  slot ← bool_if (codes "context-slot-1") (get (codes "context-slot-1") d)
  with_parts e slot (get (codes "core-imports") d) (get (codes "core-exports") d) (world_of same_interface d)

-- the record that bytes encode
unfoldable pub record_in : List ℕ → Result Record Failure
record_in bytes = do
  d ← data_of bytes
  record_of d
