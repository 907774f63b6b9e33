-- What instances have: what the type of an imported interface exports, what stands in a nested
-- component, and what an instance of it is given (component model, explainer: instance types,
-- component definitions, instance definitions).
use Rattle.std.specs.Prelude.{◌≡◌, ◌<◌, ◌++◌, ℕ, List, [], map, get_or, slice_get, Some}
use Rattle.std.specs.List.{AllByRecursion, IsDistinct, flat_map}
use Rattle.std.specs.Str.{bytes_eq}
use Rattle.comp_bytes.specs.ItemIndices.{IsAt}
use Rattle.comp_bytes.specs.Spaces.{items_in}
use Rattle.comp_bytes.specs.declared.space.Sort.{Sort}
use Rattle.comp_bytes.specs.declared.space.Sort.TheVariants as sorts
use Rattle.comp_bytes.specs.declared.space.Space.TheVariants as spaces
use Rattle.comp_bytes.specs.declared.types.Member.{Member}
use Rattle.comp_bytes.specs.declared.def.Argument.{Argument}
use Rattle.comp_bytes.specs.declared.def.Item.{Item}
use Rattle.comp_bytes.specs.declared.def.Item.TheVariants as items
use Rattle.comp_bytes.specs.declared.def.Def.{Def}
use Rattle.comp_bytes.specs.declared.def.Def.TheVariants as defs
use Rattle.wit_data.specs.declared.ids.InterfaceId.{InterfaceId}
use Rattle.wit_data.specs.declared.worlds.WorldKey.{WorldKey}
use Rattle.comp_trees.specs.DefinedTrees.{TypeTree}
use Rattle.comp_trees.specs.DefinedScopes.{Denotes}
use Rattle.comp_trees.specs.Members.{Surroundings, member_trees, AreMembersRight, type_exported}
use Rattle.comp_inventories.specs.Inventories.{OfInstances, surroundings_of, inventory, scope_of, no_function, argument_named}
use Rattle.nested_terms.specs.Nested.{NestedImport, ImportedFunction, ImportedType, function_import, type_import, empty_scope, imports_after, AreItemsRight}
use Rattle.comp_worlds.specs.declared.world.ComponentWorld.{ComponentWorld}
use Rattle.comp_links.specs.Lists.{ImportedInterface, import_entries, needed_types, type_name, type_of_world}

-- ---- imported interfaces

-- each type of an interface that the component needs is exported under its name, and denotes what it does in the world
abbrev pub HasNeededTypes : ComponentWorld → InterfaceId → Surroundings → List Member → Type 0
HasNeededTypes w id s members = AllByRecursion (λ t. type_exported s (member_trees s [] members) (type_name w t) members ≡ type_of_world w t) (needed_types w id)

-- The next import is, in the world, an interface, and the index names a type of instances with
-- members that are right in this import, and that export the types which are needed.
pub record ImportsInterface (w : ComponentWorld) (earlier : List Def) (index : ℕ) : Type 0 where
  pub key : WorldKey
  pub id : InterfaceId
  pub stated : slice_get (import_entries w) (inventory earlier).imports ≡ Some (ImportedInterface key id)
  pub outer : List TypeTree
  pub members : List Member
  pub is : slice_get (inventory earlier).types index ≡ Some (OfInstances outer members)
  pub right : AreMembersRight (surroundings_of (inventory earlier).imports outer) [] members
  pub types : HasNeededTypes w id (surroundings_of (inventory earlier).imports outer) members

-- ---- nested components

-- the items of a nested component are right, where some types are given for its imports
pub record IsNestedRight (definitions : List Item) : Type 0 where
  pub given : List ℕ → TypeTree
  pub right : AreItemsRight given empty_scope definitions

-- the import of a function is given a function of its type
pub record IsFunctionGiven (earlier : List Def) (arguments : List Argument) (name : List ℕ) (type : TypeTree) : Type 0 where
  pub argument : Argument
  pub named : argument_named sorts.Func name arguments ≡ Some argument
  pub typed : (get_or (inventory earlier).functions argument.index no_function).type ≡ type

-- the import of a type is given a type that denotes this
pub record IsTypeGiven (earlier : List Def) (arguments : List Argument) (name : List ℕ) (tree : TypeTree) : Type 0 where
  pub argument : Argument
  pub named : argument_named sorts.Type name arguments ≡ Some argument
  pub denotes : Denotes (scope_of earlier) argument.index tree

abbrev pub IsImportGiven : List Def → List Argument → NestedImport → Type 0
IsImportGiven earlier arguments (ImportedFunction name type) = IsFunctionGiven earlier arguments name type
IsImportGiven earlier arguments (ImportedType name tree) = IsTypeGiven earlier arguments name tree

-- an argument is an earlier function or an earlier type
abbrev pub IsArgumentIn : List Def → Sort → ℕ → Type 0
IsArgumentIn earlier sorts.Func index = index < items_in spaces.Func earlier
IsArgumentIn earlier sorts.Type index = index < items_in spaces.Type earlier
IsArgumentIn earlier sort index = ⊥

abbrev pub IsArgumentRight : List Def → Argument → Type 0
IsArgumentRight earlier a = IsArgumentIn earlier a.sort a.index

-- A nested component is instantiated: it is right, and each of its imports is given an argument of
-- its type. There are no more arguments than imports: they are named after the functions and then
-- the types that it imports, under distinct names.
pub record InstantiatesNested (earlier : List Def) (component : ℕ) (arguments : List Argument) : Type 0 where
  pub definitions : List Item
  pub given : List ℕ → TypeTree
  pub made : IsAt earlier spaces.Component component (defs.Component definitions)
  pub scoped : AllByRecursion (IsArgumentRight earlier) arguments
  pub apart : IsDistinct bytes_eq (map (λ a. a.name) arguments)
  pub exact : map (λ a. a.name) arguments ≡ flat_map function_import definitions ++ flat_map type_import definitions
  pub right : AreItemsRight given empty_scope definitions
  pub each : AllByRecursion (IsImportGiven earlier arguments) (imports_after given empty_scope definitions)

-- the instance of this index is one of a nested component
pub record IsInstanceOfNested (earlier : List Def) (index : ℕ) : Type 0 where
  pub component : ℕ
  pub arguments : List Argument
  pub made : IsAt earlier spaces.Instance index (defs.Item (items.Instantiate component arguments))
