-- What is known of what was imported, and of what is the next import. (The rules are this project's own.)
use Rattle.std.specs.Prelude.{◌≡◌, ◌+◌, ◌<◌, ℕ, suc, List, Option, Some, None, IsSome, IsTrue, Contains, length, map, slice_get, ◌⊎◌}
use Rattle.comp_lists.specs.Found.{found}
use Rattle.comp_bytes.specs.declared.def.Def.{Def}
use Rattle.comp_trees.specs.Trees.{Origin, FunctionTree}
use Rattle.wit_data.specs.Sound.{HasFunction}
use Rattle.wit_data.specs.declared.functions.Function.{Function}
use Rattle.wit_data.specs.declared.ids.InterfaceId.{InterfaceId}
use Rattle.wit_data.specs.declared.ids.TypeId.{TypeId}
use Rattle.wit_data.specs.declared.types.Type.{«Type» as Ty}
use Rattle.wit_data.specs.declared.worlds.WorldItem.{WorldItem}
use Rattle.wit_data.specs.declared.worlds.WorldItem.TheVariants as items
use Rattle.wit_data.specs.declared.worlds.WorldKey.{WorldKey}
use Rattle.wit_data.specs.declared.worlds.WorldKey.TheVariants as keys
use Rattle.comp_worlds.specs.WorldContents.{items_of, imported_types}
use Rattle.comp_worlds.specs.declared.world.ComponentWorld.{ComponentWorld}
use Rattle.comp_links.specs.Modules.{function_imported}
use Rattle.comp_links.specs.Targets.{OfRoot}
use Rattle.comp_links.specs.Lists.{IsOriginOf, WorldType, RootFunction, import_entries, interface_entries, number_of_type}
use Rattle.comp_links.specs.Roles.{is_used}
use Rattle.comp_terms.specs.Terms.{IsImportedFunction, imports_in}
use Rattle.comp_terms.specs.Planned.{IsTypeOf}
use Rattle.interface_needs.specs.RootNeeds.{IsUsedFunction, IsExportedFunction}

-- how many imports come before the functions at the root: interfaces and types
abbrev pub first_imports : ComponentWorld → ℕ
first_imports w = length (interface_entries w) + length (imported_types w)

-- the function is the world's root function of this name, as it is imported, with its type
pub record IsRootImport (w : ComponentWorld) (ds : List Def) (index : ℕ) (text : List ℕ) : Type 0 where
  pub origin : Origin
  pub type : FunctionTree
  pub of : IsOriginOf w (OfRoot text) origin
  pub typed : IsTypeOf w (OfRoot text) type
  pub is : IsImportedFunction ds index origin type

-- a function of an exported interface; or, where no interface is given, one at the root that core
-- imports use, or that is exported
abbrev pub IsNeededFunction : ComponentWorld → Option InterfaceId → Function → Type 0
IsNeededFunction w (Some id) f = IsExportedFunction w (Some id) f
IsNeededFunction w None f = ((name : List ℕ) × IsUsedFunction w name f) ⊎ IsExportedFunction w None f

-- the result of such a function, if it has one
pub record IsResult (w : ComponentWorld) (interface : Option InterfaceId) (result : Option Ty) : Type 0 where
  pub function : Function
  pub present : HasFunction w.resolve function
  pub needed : IsNeededFunction w interface function
  pub is : function.result ≡ result

-- each name is that of a root function, as it is imported
pub record FindsImports (w : ComponentWorld) (ds : List Def) (functions : List (List ℕ × ℕ)) : Type 0 where
  pub each : (text : List ℕ) (index : ℕ) → found text functions ≡ Some index → IsRootImport w ds index text

-- what was found before is still found
pub record FindsMore (old new : List (List ℕ × ℕ)) : Type 0 where
  pub each : (text : List ℕ) → IsSome (found text old) → IsSome (found text new)

-- each root function that a core import uses is found
pub record FindsUsed (w : ComponentWorld) (functions : List (List ℕ × ℕ)) : Type 0 where
  pub each : (text : List ℕ) → IsTrue (is_used w text) → IsSome (found text functions)

-- the root function is the next one that is imported, if an import of main uses it
pub record IsNext (w : ComponentWorld) (ds : List Def) (text : List ℕ) (f : Function) : Type 0 where
  pub of : function_imported w (OfRoot text) ≡ Some f
  pub number : IsTrue (is_used w text) → slice_get (import_entries w) (imports_in ds) ≡ Some (RootFunction text)

-- so is that of an item of the world, if it is one
abbrev pub IsNextItem : ComponentWorld → List Def → WorldKey × WorldItem → Type 0
IsNextItem w ds (keys.Name text, items.Function f) = IsNext w ds text f × HasFunction w.resolve f
IsNextItem w ds entry = Unit {0}

-- each type that the world imports and that comes before this one in the resolve is below `next`
pub record IsNextId (w : ComponentWorld) (next : ℕ) (id : TypeId) : Type 0 where
  pub earlier : (n : ℕ) → n < id.index → Contains (map (λ t. t.1.index) (imported_types w)) n → n < next

-- the type is the next import, and it has no other number among the imports
pub record IsNextTypeImport (w : ComponentWorld) (next : ℕ) (ds : List Def) (name : List ℕ) (id : TypeId) : Type 0 where
  pub listed : Contains (items_of w).imports (keys.Name name, items.NamedType id)
  pub stated : slice_get (import_entries w) (imports_in ds) ≡ Some (WorldType name id)
  pub number : number_of_type id (import_entries w) ≡ imports_in ds
  pub order : IsNextId w next id

-- so is that of an item of the world, if it is one
abbrev pub IsNextType : ComponentWorld → ℕ → List Def → WorldKey × WorldItem → Type 0
IsNextType w next ds (keys.Name text, items.NamedType id) = IsNextTypeImport w next ds text id
IsNextType w next ds entry = Unit {0}

-- the number after the type of an item, if it is one
abbrev pub next_after : ℕ → WorldKey × WorldItem → ℕ
next_after next (keys.Name text, items.NamedType id) = suc id.index
next_after next entry = next
