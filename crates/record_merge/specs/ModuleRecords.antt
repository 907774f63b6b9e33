-- What the records of one module say together.
--
-- Their worlds are merged like those of modules. The role of a core import or export may be given
-- several times, but not two different ones, and an export role, except for its form of calls, is
-- that of one field.
use Rattle.std.specs.Prelude.{ℕ, Bool, List, [], ◌∷◌, Result, Ok, map}
use Rattle.std.specs.List.{flat_map, list_any}
use Rattle.std.specs.Str.{bytes_eq}
use Rattle.json_paths.specs.declared.fault.Failure.{Failure}
use Rattle.json_paths.specs.Faults.{◌>>=◌}
use Rattle.record_values.specs.declared.record.Assigned.{Assigned}
use Rattle.record_values.specs.declared.record.ImportName.{ImportName}
use Rattle.record_values.specs.declared.record.Record.{Record}
use Rattle.record_values.specs.declared.roles.ImportRole.{ImportRole}
use Rattle.record_values.specs.declared.roles.ExportRole.{ExportRole}
use Rattle.record_values.specs.declared.roles.ExportRole.TheVariants as roles
use Rattle.record_values.specs.declared.world.Wit.{Wit}
use Rattle.record_values.specs.Names.{is_same_import}
use Rattle.wit_data.specs.declared.functions.AbiVariant.TheVariants as abis
use Rattle.record_merge.specs.declared.bindgen.Roles.{Roles}
use Rattle.record_merge.specs.declared.bindgen.Bindgen.{Bindgen}
use Rattle.record_merge.specs.declared.assigning.RoleTables.{RoleTables}
use Rattle.record_merge.specs.Said.{no_wit}
use Rattle.record_merge.specs.Tables.{with_entry, apart}
use Rattle.record_merge.specs.Merging.{Tests, merged_wit}
use Rattle.record_merge.specs.Encodings.{encodings_after}

abbrev pub worlds_after : Tests → Wit → List Record → Result Wit Failure
worlds_after t w [] = Ok w
worlds_after t w (r ∷ rs) = merged_wit t w r.wit >>= λ v. worlds_after t v rs

-- when import roles are equal, and when export roles are
pub record RoleTests : Type 0 where
  pub import_role : ImportRole → ImportRole → Bool
  pub export_role : ExportRole → ExportRole → Bool

-- a table with more roles: a name that has one must have the same
abbrev pub roles_after : {K R : Type 0} → (K → K → Bool) → (R → R → Bool) → (K → List ℕ) → List (K × R) → List (Assigned K R) → Result (List (K × R)) Failure
roles_after eq same field table [] = Ok table
roles_after eq same field table (a ∷ more) = with_entry eq same field table a.key a.role >>= λ t. roles_after eq same field t more

-- a role, except for its form of calls
abbrev pub without_abi : ExportRole → ExportRole
without_abi (roles.Function owner name abi) = roles.Function owner name abis.GuestExport
without_abi role = role

-- each role is that of one field, except for its form of calls
abbrev pub one_field_each : (ExportRole → ExportRole → Bool) → List (List ℕ × ExportRole) → Result (List (ExportRole × List ℕ)) Failure
one_field_each same es = apart same (λ e. e.1) [] (map (λ e. (without_abi e.1, e.0)) es)

unfoldable pub role_tables : RoleTests → List (Assigned ImportName ImportRole) → List (Assigned (List ℕ) ExportRole) → Result RoleTables Failure
role_tables t imports exports = do
  is ← roles_after is_same_import t.import_role (λ n. n.field) [] imports
  es ← roles_after bytes_eq t.export_role (λ f. f) [] exports
  _ ← one_field_each t.export_role es
  Ok (record { imports = is; exports = es })

unfoldable pub roles_of : RoleTests → List Record → Result Roles Failure
roles_of t rs = do
  r ← role_tables t (flat_map (λ r. r.import_roles) rs) (flat_map (λ r. r.export_roles) rs)
  Ok (record {
    import_roles = r.imports;
    export_roles = r.exports;
    import_encodings = encodings_after (λ w. w.imports) [] rs;
    export_encodings = encodings_after (λ w. w.exports) [] rs;
    context_slot_1 = list_any (λ r. r.context_slot_1) rs;
  })

unfoldable pub bindgen_of : Tests → RoleTests → List Record → Result Bindgen Failure
bindgen_of t u rs = do
  w ← worlds_after t no_wit rs
  r ← roles_of u rs
  Ok (record { wit = w; roles = r })
