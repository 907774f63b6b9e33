-- The roles of all core imports: the member `core-imports` of a record, a list of {"module",
-- "field", "role"}, which may be left out.
use Rattle.std.specs.Prelude.{List, [], ◌∷◌, codes, Option, Some, None, ok_or, Result, Ok, Err}
use Rattle.serde_json.specs.Data.{Data}
use Rattle.serde_json.specs.Find.{as_array}
use Rattle.json_paths.specs.declared.fault.Failure.{Failure}
use Rattle.json_paths.specs.Faults.{◌>>=◌}
use Rattle.json_paths.specs.Reading.{under, here, required, text_at, only, items_from}
use Rattle.record_values.specs.declared.record.Assigned.{Assigned}
use Rattle.record_values.specs.declared.record.ImportName.{ImportName}
use Rattle.record_values.specs.declared.roles.ImportRole.{ImportRole}
use Rattle.record_sides.specs.declared.indexed.RecordWorld.{RecordWorld}
use Rattle.record_import_roles.specs.ImportRoles.{import_role_of}
use Rattle.record_import_roles.specs.Payloads.{Met}

abbrev pub import_role_at : RecordWorld → Met → Data → Result ImportRole Failure
import_role_at w met d = do
  v ← required (codes "role") d
  under (codes "role") (import_role_of w met v)

unfoldable pub core_import_of : RecordWorld → Met → Data → Result (Assigned ImportName ImportRole) Failure
core_import_of w met d = do
  _ ← only (codes "module" ∷ codes "field" ∷ codes "role" ∷ []) d
  m ← text_at (codes "module") d
  f ← text_at (codes "field") d
  r ← import_role_at w met d
  Ok (record { key = record { «module» = m; field = f }; role = r })

unfoldable pub core_imports_of : RecordWorld → Met → Data → Result (List (Assigned ImportName ImportRole)) Failure
core_imports_of w met d = do
  ds ← ok_or (as_array d) here
  items_from (core_import_of w met) 0 ds

abbrev pub core_imports_if : RecordWorld → Met → Option Data → Result (List (Assigned ImportName ImportRole)) Failure
core_imports_if w met None = Ok []
core_imports_if w met (Some v) = under (codes "core-imports") (core_imports_of w met v)
