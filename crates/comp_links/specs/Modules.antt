-- The user modules of a world (core standard: modules, their imports and exports): main, then its adapters, each by its
-- name, with its bytes, the types of its imports and exports as validation found them, and their roles.
use Rattle.std.specs.Prelude.{◌≡◌, ℕ, List, ◌∷◌, map, Option, Some, slice_get}
use Rattle.std.specs.List.{flat_map}
use Rattle.std.specs.Option.{option_map}
use Rattle.comp_lists.specs.Found.{found}
use Rattle.wit_data.specs.declared.functions.Function.{Function}
use Rattle.wit_data.specs.declared.worlds.WorldKey.TheVariants as keys
use Rattle.world_values.specs.Items.{functions_of, root_function_at}
use Rattle.comp_roles.specs.CoreImports.{CoreImport, imports_from}
use Rattle.comp_roles.specs.declared.imports.ImportInstance.{ImportInstance}
use Rattle.comp_worlds.specs.WorldContents.{items_of}
use Rattle.comp_worlds.specs.declared.world.ComponentWorld.{ComponentWorld}
use Rattle.comp_worlds.specs.declared.world.ValidatedModule.{ValidatedModule}
use Rattle.comp_worlds.specs.declared.world.WorldAdapter.{WorldAdapter}
use Rattle.comp_links.specs.Targets.{UserModule, Main, Adapter, WorldFunction, OfRoot, OfInterface}

-- a user module, with what validation found of it
pub record WorldModule : Type 0 where
  pub of : UserModule
  pub found : ValidatedModule

abbrev pub adapter_module : List ℕ × WorldAdapter → WorldModule
adapter_module a = record { of = Adapter a.0; found = a.1.info }

abbrev pub user_modules : ComponentWorld → List WorldModule
user_modules w = record { of = Main; found = w.main } ∷ map adapter_module w.adapters

-- what validation found of a user module
abbrev pub module_found : ComponentWorld → UserModule → Option ValidatedModule
module_found w Main = Some w.main
module_found w (Adapter name) = option_map (λ (a : WorldAdapter). a.info) (found name w.adapters)

-- the imports of all user modules, by the modules that they are from
abbrev pub import_groups : ComponentWorld → List (List ℕ × ImportInstance)
import_groups w = flat_map (λ (m : WorldModule). m.found.imports.modules) (user_modules w)

-- an import of a user module
pub record UserImport : Type 0 where
  pub of : UserModule
  pub core : CoreImport

abbrev pub imports_of_module : WorldModule → List UserImport
imports_of_module m = map (λ i. record { of = m.of; core = i }) (flat_map imports_from m.found.imports.modules)

-- the imports of all user modules, module by module
abbrev pub user_imports : ComponentWorld → List UserImport
user_imports w = flat_map imports_of_module (user_modules w)

-- the user module of this number
pub record IsModule (w : ComponentWorld) (number : ℕ) (of : UserModule) : Type 0 where
  pub world_module : WorldModule
  pub listed : slice_get (user_modules w) number ≡ Some world_module
  pub same : world_module.of ≡ of

-- a function that the world imports
abbrev pub function_imported : ComponentWorld → WorldFunction → Option Function
function_imported w (OfRoot name) = root_function_at (items_of w).imports (keys.Name name)
function_imported w (OfInterface interface name) = found name (functions_of w.resolve interface)
