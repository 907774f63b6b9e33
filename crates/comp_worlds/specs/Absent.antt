-- Which adapters a module names that are not in a table: those that the arguments of a library
-- name, and those whose instances, whole or item by item, its imports are given. (Rules of this
-- project's own.)
use Rattle.std.specs.Prelude.{ℕ, List, Option, Some, None, is_some, if◌then◌else◌}
use Rattle.std.specs.Option.{option_or}
use Rattle.comp_lists.specs.Found.{found}
use Rattle.comp_roles.specs.Lookups.{first_some}
use Rattle.comp_roles.specs.declared.imports.Import.{Import}
use Rattle.comp_roles.specs.declared.imports.Import.TheVariants as imports
use Rattle.comp_roles.specs.declared.imports.ImportInstance.{ImportInstance}
use Rattle.comp_roles.specs.declared.imports.ImportInstance.TheVariants as instances
use Rattle.comp_roles.specs.declared.imports.ImportMap.{ImportMap}
use Rattle.comp_roles.specs.declared.libraries.Instance.{Instance}
use Rattle.comp_roles.specs.declared.libraries.Instance.TheVariants as arguments
use Rattle.comp_roles.specs.declared.libraries.LibraryInfo.{LibraryInfo}
use Rattle.comp_roles.specs.declared.libraries.MainOrAdapter.{MainOrAdapter}
use Rattle.comp_roles.specs.declared.libraries.MainOrAdapter.TheVariants as modules
use Rattle.comp_worlds.specs.declared.world.WorldAdapter.{WorldAdapter}

module _ {V : Type 0} (table : List (List ℕ × V)) where
  -- the name of the adapter that is named, where the table has none of that name
  abbrev pub absent_module : MainOrAdapter → Option (List ℕ)
  absent_module modules.Main = None
  absent_module (modules.Adapter name) = if is_some (found name table) then None else Some name

  -- the first such name in what satisfies the imports from one module: items are looked at in order
  abbrev pub absent_in_instance : Instance → Option (List ℕ)
  absent_in_instance (arguments.MainOrAdapter which) = absent_module which
  absent_in_instance (arguments.Items items) = first_some (λ i. absent_module i.which) items

  -- the first such name in the arguments of a library, in order; a plain adapter has none
  abbrev pub absent_argument : Option LibraryInfo → Option (List ℕ)
  absent_argument None = None
  absent_argument (Some info) = first_some (λ a. absent_in_instance a.instance) info.arguments

  -- the first such name among what the imports of a module are given
  abbrev pub absent_item : Import → Option (List ℕ)
  absent_item (imports.Item item) = absent_module item.which
  absent_item role = None

  abbrev pub absent_in_group : ImportInstance → Option (List ℕ)
  absent_in_group (instances.Names fields) = first_some (λ f. absent_item f.1) fields
  absent_in_group (instances.Whole which) = absent_module which

  abbrev pub absent_in_imports : ImportMap → Option (List ℕ)
  absent_in_imports imports = first_some (λ g. absent_in_group g.1) imports.modules

  -- the first such name that an adapter names
  abbrev pub absent_adapter : WorldAdapter → Option (List ℕ)
  absent_adapter a = option_or (absent_argument a.library_info) (absent_in_imports a.info.imports)
