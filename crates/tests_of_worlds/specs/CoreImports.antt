-- The core imports of the world whose tables are tested. (For tests alone; no standard speaks of it.)
use Rattle.std.specs.Prelude.{ℕ, List, [], ◌∷◌, nat_eq, codes}
use Rattle.std.specs.Cmp.Lexicographic.{pointwise}
use Rattle.comp_lists.specs.Tables.{with_first}
use Rattle.wit_data.specs.declared.worlds.WorldKey.TheVariants as keys
use Rattle.wit_data.specs.declared.functions.AbiVariant.TheVariants as abis
use Rattle.comp_roles.specs.declared.imports.Import.{Import}
use Rattle.comp_roles.specs.declared.imports.Import.TheVariants as roles
use Rattle.comp_roles.specs.declared.imports.ImportInstance.{ImportInstance}
use Rattle.comp_roles.specs.declared.imports.ImportInstance.TheVariants as instances
use Rattle.comp_roles.specs.declared.imports.ImportMap.{ImportMap}

-- a function of the first interface, by its name
abbrev pub role_of : List ℕ → Import
role_of name = roles.InterfaceFunc (keys.Interface (record { index = 0 })) (record { index = 0 }) name abis.GuestImport

abbrev pub fields_of : List ℕ → List (List ℕ × Import)
fields_of name = (name, role_of name) ∷ []

-- modules, and one more of which the field is imported
abbrev pub with_module : List (List ℕ × ImportInstance) → List ℕ → List ℕ → List (List ℕ × ImportInstance)
with_module modules name field = with_first (pointwise nat_eq) modules name (instances.Names (fields_of field))

abbrev pub core_imports : ImportMap
core_imports = record { modules = (codes "a", instances.Names (fields_of (codes "f"))) ∷ (codes "b", instances.Names (fields_of (codes "g"))) ∷ [] }
