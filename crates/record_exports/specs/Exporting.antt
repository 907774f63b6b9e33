-- The roles of the core exports of a module. Those without a role are left out.
use Rattle.std.specs.Prelude.{ℕ, List, [], ◌∷◌, Option, Some, None, Result, Ok}
use Rattle.std.specs.Str.{bytes_eq}
use Rattle.comp_lists.specs.Found.{found}
use Rattle.comp_lists.specs.Tables.{with_first}
use Rattle.core_sections.specs.declared.core_module.CoreModule.{CoreModule}
use Rattle.core_sections.specs.declared.entries.ExportedItem.{ExportedItem}
use Rattle.record_values.specs.declared.roles.ExportRole.{ExportRole}
use Rattle.record_resolve.specs.declared.resolving.Resolved.{Resolved}
use Rattle.record_faults.specs.declared.fault.Failure.{Failure}
use Rattle.record_faults.specs.Faults.{◌>>=◌}
use Rattle.record_exports.specs.Functions.{Exports}
use Rattle.record_exports.specs.Meaning.{export_of}
use Rattle.record_exports.specs.Taking.{all_taken}

-- the roles of core exports by name
abbrev pub Roles : Type 0
Roles = List (List ℕ × ExportRole)

-- the role of one export more
abbrev pub with_role : Resolved → CoreModule → Exports → List ℕ → ExportedItem → Option ExportRole → Result Exports Failure
with_role r core all name item None = Ok all
with_role r core all name item (Some role) = export_of r core name item role >>= λ export. Ok (with_first bytes_eq all name export)

-- the roles of these exports, after others
abbrev pub exports_after : Resolved → Roles → CoreModule → Exports → List (List ℕ × ExportedItem) → Result Exports Failure
exports_after r roles core all [] = Ok all
exports_after r roles core all (e ∷ es) = with_role r core all e.0 e.1 (found e.0 roles) >>= λ more. exports_after r roles core more es

-- the roles of all exports of a module, none of which is a post-return or a callback of a function that can't have one
unfoldable pub exports_of : Resolved → Roles → CoreModule → Result Exports Failure
exports_of r roles core = do
  all ← exports_after r roles core [] core.exports
  _ ← all_taken all
  Ok all
