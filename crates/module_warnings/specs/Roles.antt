-- Warnings of the roles of core imports and core exports. A role whose core import or core export isn't there has no effect, and a
-- post-return is called after a function that a core export is (Canonical ABI: `canon lift`).
use Rattle.std.specs.Prelude.{ℕ, ⊤, Bool, false, ◌&&◌, not, is_some, List, [], ◌∷◌, ◌++◌, codes}
use Rattle.std.specs.List.{flat_map}
use Rattle.std.specs.Map.{lookup}
use Rattle.std.specs.Str.{bytes_eq}
use Rattle.comp_lists.specs.Tables.{with_first}
use Rattle.core_sections.specs.declared.core_module.CoreModule.{CoreModule}
use Rattle.core_sections.specs.declared.entries.CoreImport.{CoreImport}
use Rattle.core_sections.specs.declared.entries.ExportedItem.{ExportedItem}
use Rattle.name_warnings.specs.Warnings.{warned}
use Rattle.name_warnings.specs.declared.warning.Warning.{Warning}
use Rattle.name_warnings.specs.declared.warning.WarningKind.TheVariants as kinds
use Rattle.package_lower.specs.Roles.{import_name}
use Rattle.record_merge.specs.declared.bindgen.Roles.{Roles}
use Rattle.record_values.specs.declared.names.TypeName.{TypeName}
use Rattle.record_values.specs.declared.record.ImportName.{ImportName}
use Rattle.record_values.specs.declared.roles.ExportRole.{ExportRole}
use Rattle.record_values.specs.declared.roles.ExportRole.TheVariants as export_roles
use Rattle.record_values.specs.declared.roles.ImportRole.{ImportRole}
use Rattle.record_values.specs.declared.roles.ImportRole.TheVariants as import_roles
use Rattle.record_values.specs.Names.{is_same_import, is_same_type}
use Rattle.world_names.specs.WorldNames.{owned}

-- ---- roles of core imports

abbrev pub CoreImports : Type 0
CoreImports = List (ImportName × ⊤)

abbrev pub imports_after : CoreImports → List CoreImport → CoreImports
imports_after table [] = table
imports_after table (i ∷ is) = imports_after (with_first is_same_import table (import_name i) tt) is

-- the role of the name that an adapter's import of main's realloc gets where main is given one (docs/RECORD.md)
abbrev pub is_spare : ImportRole → Bool
is_spare (import_roles.MainExport name kind) = bytes_eq name (codes "cabi_realloc_adapter")
is_spare role = false

abbrev pub lacks_import : CoreImports → ImportName → ImportRole → Bool
lacks_import there name role = not (is_some (lookup (is_same_import name) there)) && not (is_spare role)

abbrev pub import_warnings : CoreImports → List (List ℕ) → ImportName × ImportRole → List Warning
import_warnings there path e = warned (lacks_import there e.0 e.1) kinds.FieldMissing ((path ++ e.0.«module» ∷ []) ++ e.0.field ∷ [])

abbrev pub imports_at : CoreModule → List (ImportName × ImportRole) → List (List ℕ) → List Warning
imports_at core roles path = flat_map (import_warnings (imports_after [] core.imports) path) roles

-- ---- roles of core exports

-- the functions that core exports are
abbrev pub Functions : Type 0
Functions = List (TypeName × ⊤)

abbrev pub with_role : Functions → ExportRole → Functions
with_role table (export_roles.Function owner name abi) = with_first is_same_type table (owned owner name) tt
with_role table role = table

abbrev pub functions_after : Functions → List (List ℕ × ExportRole) → Functions
functions_after table [] = table
functions_after table (e ∷ es) = functions_after (with_role table e.1) es

abbrev pub export_warnings : List (List ℕ × ExportedItem) → List (List ℕ) → List ℕ → List Warning
export_warnings exports path field = warned (not (is_some (lookup (bytes_eq field) exports))) kinds.FieldMissing (path ++ field ∷ [])

abbrev pub post_return_warnings : Functions → List (List ℕ) → List ℕ → ExportRole → List Warning
post_return_warnings functions path field (export_roles.PostReturn owner function) =
    warned (not (is_some (lookup (is_same_type (owned owner function)) functions))) kinds.PostReturnAlone (path ++ field ∷ [])
post_return_warnings functions path field role = []

abbrev pub field_warnings : List (List ℕ × ExportedItem) → Functions → List (List ℕ) → List ℕ × ExportRole → List Warning
field_warnings exports functions path e = export_warnings exports path e.0 ++ post_return_warnings functions path e.0 e.1

abbrev pub exports_at : CoreModule → List (List ℕ × ExportRole) → List (List ℕ) → List Warning
exports_at core roles path = flat_map (field_warnings core.exports (functions_after [] roles) path) roles

-- ---- both

abbrev pub role_warnings : CoreModule → List (List ℕ) → Roles → List Warning
role_warnings core path roles =
    imports_at core roles.import_roles (path ++ codes "core-imports" ∷ []) ++ exports_at core roles.export_roles (path ++ codes "core-exports" ∷ [])
