-- The roles of all core exports: the member `core-exports` of a record, a list of {"field",
-- "role"}, which may be left out.
use Rattle.std.specs.Prelude.{ℕ, List, [], ◌∷◌, codes, Option, Some, None, ok_or, Result, Ok, Err}
use Rattle.serde_json.specs.Data.{Data}
use Rattle.serde_json.specs.Find.{as_array}
use Rattle.json_paths.specs.declared.fault.Failure.{Failure}
use Rattle.json_paths.specs.Faults.{◌>>=◌}
use Rattle.json_paths.specs.Reading.{under, here, required, text_at, only, items_from}
use Rattle.record_values.specs.declared.record.Assigned.{Assigned}
use Rattle.record_values.specs.declared.roles.ExportRole.{ExportRole}
use Rattle.record_sides.specs.declared.indexed.RecordWorld.{RecordWorld}
use Rattle.record_export_roles.specs.ExportRoles.{export_role_of}

abbrev pub export_role_at : RecordWorld → Data → Result ExportRole Failure
export_role_at w d = do
  v ← required (codes "role") d
  under (codes "role") (export_role_of w v)

unfoldable pub core_export_of : RecordWorld → Data → Result (Assigned (List ℕ) ExportRole) Failure
core_export_of w d = do
  _ ← only (codes "field" ∷ codes "role" ∷ []) d
  f ← text_at (codes "field") d
  r ← export_role_at w d
  Ok (record { key = f; role = r })

unfoldable pub core_exports_of : RecordWorld → Data → Result (List (Assigned (List ℕ) ExportRole)) Failure
core_exports_of w d = do
  ds ← ok_or (as_array d) here
  items_from (core_export_of w) 0 ds

abbrev pub core_exports_if : RecordWorld → Option Data → Result (List (Assigned (List ℕ) ExportRole)) Failure
core_exports_if w None = Ok []
core_exports_if w (Some v) = under (codes "core-exports") (core_exports_of w v)
