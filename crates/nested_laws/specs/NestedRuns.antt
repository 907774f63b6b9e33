-- What a nested component is given for its imports, and what a run has after its items: what the
-- type indices denote, which argument each function is, and what the instance exports (component
-- model, explainer: component definitions, instance definitions).
use Rattle.std.specs.Prelude.{ℕ, ◌≡◌, Bool, false, List, ◌++◌, Some, filter}
use Rattle.std.specs.List.{AllZip, AllByRecursion}
use Rattle.std.specs.Str.{bytes_eq}
use Rattle.comp_bytes.specs.declared.space.Space.TheVariants as spaces
use Rattle.comp_bytes.specs.declared.def.Item.{Item}
use Rattle.core_runs.specs.Store.{Now}
use Rattle.comp_trees.specs.DefinedTrees.{TypeTree}
use Rattle.nested_terms.specs.Nested.{NestedFunction, NestedScope, NestedImport, ImportedFunction, ImportedType, NestedExport, ExportedFunction, ExportedType, empty_scope, with_item, scope_after, export_made, exports_after}
use Rattle.comp_runs.specs.Store.{Thing, Export, TypeItem, own_resources, ComponentItem}
use Rattle.comp_runs.specs.Machine.{Machine, Next, is_of, export_of, new_instance}
use Rattle.comp_runs.specs.Instances.{ModuleMeaning}
use Rattle.comp_runs.specs.Running.{item_effect, items_run, met_by_argument, made_by_none, instantiate_component}
use Rattle.instance_laws.specs.Instantiated.{IsHeldAs, AreHeldAs, with_now}

-- ---- the arguments

-- there is an argument of this name for a function; and one for a type, which denotes this
pub record GivesFunction (arguments : List Export) (name : List ℕ) : Type 0 where
  pub export : Export
  pub found : export_of spaces.Func name arguments ≡ Some export

pub record GivesType (types : List TypeItem) (arguments : List Export) (name : List ℕ) (tree : TypeTree) : Type 0 where
  pub export : Export
  pub found : export_of spaces.Type name arguments ≡ Some export
  pub is : IsHeldAs types tree export.address

-- the import has an argument, and each of these has
abbrev pub IsGiven : List TypeItem → List Export → NestedImport → Type 0
IsGiven types arguments (ImportedFunction name type) = GivesFunction arguments name
IsGiven types arguments (ImportedType name tree) = GivesType types arguments name tree

abbrev pub AreGiven : List TypeItem → List Export → List NestedImport → Type 0
AreGiven types arguments imports = AllByRecursion (IsGiven types arguments) imports

-- the function at this address is the argument of this name
pub record IsArgument (arguments : List Export) (name : List ℕ) (address : ℕ) : Type 0 where
  pub export : Export
  pub found : export_of spaces.Func name arguments ≡ Some export
  pub same : export.address ≡ address

abbrev pub IsThingArgument : List Export → NestedFunction → Thing → Type 0
IsThingArgument arguments function t = IsArgument arguments function.argument t.address

-- the functions among these items are the arguments that they are said to be, in their order
abbrev pub AreArguments : List Export → List NestedFunction → List Thing → Type 0
AreArguments arguments functions items = AllZip (IsThingArgument arguments) functions (filter (is_of spaces.Func) items)

-- ---- the exports

-- the export is the argument of this name; and is a type, which denotes this
pub record ExportsArgument (arguments : List Export) (name : List ℕ) (function : NestedFunction) (e : Export) : Type 0 where
  pub named : e.name ≡ name
  pub space : e.space ≡ spaces.Func
  pub is : IsArgument arguments function.argument e.address

pub record ExportsType (types : List TypeItem) (name : List ℕ) (tree : TypeTree) (e : Export) : Type 0 where
  pub named : e.name ≡ name
  pub space : e.space ≡ spaces.Type
  pub is : IsHeldAs types tree e.address

-- the export of the instance is what is said to be exported, and each of these is, in their order
abbrev pub IsNestedExport : List TypeItem → List Export → NestedExport → Export → Type 0
IsNestedExport types arguments (ExportedFunction name function) e = ExportsArgument arguments name function e
IsNestedExport types arguments (ExportedType name tree) e = ExportsType types name tree e

abbrev pub AreNestedExports : List TypeItem → List Export → List NestedExport → List Export → Type 0
AreNestedExports types arguments exported exports = AllZip (IsNestedExport types arguments) exported exports

-- ---- the run

-- the types and functions of the scope are these
pub record IsNestedScope (arguments : List Export) (s : NestedScope) (m : Machine) : Type 0 where
  pub types : AreHeldAs m.store.types s.types m.scope.items
  pub functions : AreArguments arguments s.functions m.scope.items

-- The machine has more: the types and functions of its scope are those of `s` then, and `exported`
-- was exported. What was at an address is there, and no resource is defined.
pub record GrownNested (arguments : List Export) (s : NestedScope) (exported : List NestedExport) (m : Machine) : Type 0 where
  pub items : List Thing
  pub types : List TypeItem
  pub exports : List Export
  pub more_types : List TypeItem
  pub more_exports : List Export
  pub types_grew : types ≡ m.store.types ++ more_types
  pub none_defined : own_resources more_types ≡ 0
  pub exports_grew : exports ≡ m.scope.exports ++ more_exports
  pub held : AreHeldAs types s.types items
  pub functions : AreArguments arguments s.functions items
  pub each : AreNestedExports types arguments exported more_exports

-- that machine: no other part of it is new
abbrev pub grown_nested : {arguments : List Export} {s : NestedScope} {exported : List NestedExport} (m : Machine) → GrownNested arguments s exported m → Machine
grown_nested m g = record m { scope = record m.scope { items = g.items; exports = g.exports }; store = record m.store { types = g.types } }

-- an item of a nested component runs, whatever was seen so far and whatever follows; and several do
pub record RunsItem (modules : List ModuleMeaning) (given : List ℕ → TypeTree) (arguments : List Export) (s : NestedScope) (i : Item) (m : Machine) : Type 0 where
  pub growth : GrownNested arguments (with_item given s i) (export_made given s i) m
  pub runs : (now : Now) (next : Next) → item_effect modules (met_by_argument arguments) made_by_none i (with_now m now) next ≡ next (with_now (grown_nested m growth) now)

pub record RunsItems (modules : List ModuleMeaning) (given : List ℕ → TypeTree) (arguments : List Export) (s : NestedScope) (all : List Item) (m : Machine) : Type 0 where
  pub growth : GrownNested arguments (scope_after given s all) (exports_after given s all) m
  pub runs : (now : Now) (next : Next) → items_run modules (met_by_argument arguments) made_by_none all (with_now m now) next ≡ next (with_now (grown_nested m growth) now)

-- the machine with these types, and with an instance that has these exports
abbrev pub with_nested : Machine → List TypeItem → List Export → Machine
with_nested m types exports = new_instance exports (record m { store = record m.store { types = types } })

-- A nested component runs with these arguments: there is one instance more, with the exports that
-- its items say. Beside it the store has nothing new but types, none of which is a resource that is
-- defined.
pub record RunsNested (modules : List ModuleMeaning) (given : List ℕ → TypeTree) (component : ComponentItem) (arguments : List Export) (m : Machine) : Type 0 where
  pub types : List TypeItem
  pub exports : List Export
  pub more_types : List TypeItem
  pub types_grew : types ≡ m.store.types ++ more_types
  pub none_defined : own_resources more_types ≡ 0
  pub each : AreNestedExports types arguments (exports_after given empty_scope component.definitions) exports
  pub runs : (now : Now) (next : Next) → instantiate_component modules component arguments (with_now m now) next ≡ next (with_nested (with_now m now) types exports)

-- ---- the exports by their names

-- whether a function of this name is exported
abbrev pub is_function_named : List ℕ → NestedExport → Bool
is_function_named name (ExportedFunction n function) = bytes_eq name n
is_function_named name (ExportedType n tree) = false

-- an export of a function is found by its name, and is the argument of another name
pub record FindsArgument (arguments exports : List Export) (name argument : List ℕ) : Type 0 where
  pub export : Export
  pub found : export_of spaces.Func name exports ≡ Some export
  pub space : export.space ≡ spaces.Func
  pub is : IsArgument arguments argument export.address
