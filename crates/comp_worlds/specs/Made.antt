-- Which modules' instances a library is given, whole or item by item, and which of these are made
-- before it (component model, explainer: a core instance is made before it is an argument of
-- another one).
use Rattle.std.specs.Prelude.{◌≡◌, ◌++◌, ℕ, List, [], ◌∷◌, Option, Some, None, map, take, slice_get, Contains}
use Rattle.std.specs.List.{AllByRecursion, flat_map}
use Rattle.std.specs.Map.{keys_of}
use Rattle.comp_roles.specs.declared.imports.Import.{Import}
use Rattle.comp_roles.specs.declared.imports.Import.TheVariants as imports
use Rattle.comp_roles.specs.declared.imports.ImportInstance.{ImportInstance}
use Rattle.comp_roles.specs.declared.imports.ImportInstance.TheVariants as instances
use Rattle.comp_roles.specs.declared.libraries.Instance.{Instance}
use Rattle.comp_roles.specs.declared.libraries.Instance.TheVariants as arguments
use Rattle.comp_roles.specs.declared.libraries.LibraryInfo.{LibraryInfo}
use Rattle.comp_roles.specs.declared.libraries.MainOrAdapter.{MainOrAdapter}
use Rattle.comp_roles.specs.declared.libraries.MainOrAdapter.TheVariants as modules
use Rattle.comp_worlds.specs.declared.world.ComponentWorld.{ComponentWorld}
use Rattle.comp_worlds.specs.declared.world.ValidatedModule.{ValidatedModule}
use Rattle.comp_worlds.specs.declared.world.WorldAdapter.{WorldAdapter}

-- the modules that the arguments of a library name
abbrev pub modules_of_argument : Instance → List MainOrAdapter
modules_of_argument (arguments.MainOrAdapter which) = which ∷ []
modules_of_argument (arguments.Items items) = map (λ i. i.which) items

abbrev pub modules_of_arguments : Option LibraryInfo → List MainOrAdapter
modules_of_arguments None = []
modules_of_arguments (Some info) = flat_map (λ a. modules_of_argument a.instance) info.arguments

-- the modules from which the imports of a module are given a whole instance, or an item
abbrev pub module_of_item : Import → List MainOrAdapter
module_of_item (imports.Item item) = item.which ∷ []
module_of_item role = []

abbrev pub modules_of_group : ImportInstance → List MainOrAdapter
modules_of_group (instances.Names fields) = flat_map (λ f. module_of_item f.1) fields
modules_of_group (instances.Whole which) = which ∷ []

abbrev pub modules_of_imports : ValidatedModule → List MainOrAdapter
modules_of_imports m = flat_map (λ g. modules_of_group g.1) m.imports.modules

-- all of them
abbrev pub modules_named : WorldAdapter → List MainOrAdapter
modules_named a = modules_of_arguments a.library_info ++ modules_of_imports a.info

-- main is made before all others, and an adapter before those that come after it
abbrev pub IsMadeBefore : List (List ℕ) → MainOrAdapter → Type 0
IsMadeBefore names modules.Main = Unit {0}
IsMadeBefore names (modules.Adapter name) = Contains names name

-- the modules that each of these adapters names are made before it, where the adapters of these
-- names are made before all of them
abbrev pub AreMadeAfter : List (List ℕ) → List (List ℕ × WorldAdapter) → Type 0
AreMadeAfter names [] = Unit {0}
AreMadeAfter names ((name, a) ∷ adapters) = AllByRecursion (IsMadeBefore names) (modules_named a) × AreMadeAfter (names ++ name ∷ []) adapters

-- each adapter names modules that are made before it
pub record AreMadeInOrder (w : ComponentWorld) : Type 0 where
  pub each : AreMadeAfter [] w.adapters

-- the adapter of the first name names one that is not made before it
pub record IsNotYetMade (w : ComponentWorld) (adapter name : List ℕ) : Type 0 where
  pub place : ℕ
  pub of : WorldAdapter
  pub listed : slice_get w.adapters place ≡ Some (adapter, of)
  pub names : Contains (modules_named of) (modules.Adapter name)
  pub later : Contains (take place (keys_of w.adapters)) name → ⊥
