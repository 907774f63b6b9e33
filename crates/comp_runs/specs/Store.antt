-- What a run has made so far (core standard, execution: store, addresses; component model, explainer:
-- index spaces of component instances). Lists only grow, so an address never changes its meaning; an item of an
-- index space is an address. No entry contains another: a reference to an item is its address.
use Rattle.std.specs.Prelude.{ℕ, suc, List, [], ◌∷◌, Option, Some, None, slice_get}
use Rattle.comp_bytes.specs.declared.space.Space.{Space}
use Rattle.comp_bytes.specs.declared.types.Member.{Member}
use Rattle.comp_bytes.specs.declared.canon.Intrinsic.{Intrinsic}
use Rattle.comp_bytes.specs.declared.def.Item.{Item}
use Rattle.standard_kinds.specs.declared.kinds.StringEncoding.{StringEncoding}
use Rattle.core_runs.specs.Store.{Store as CodeStore}
use Rattle.comp_trees.specs.Trees.{Tree, Origin, ImportedAt, DefinedAt, ResourceAt, FunctionTree}
use Rattle.comp_trees.specs.DefinedTrees.{TypeTree, OfValues, OfOthers}

-- an item of an index space: the address of its entry in the store
pub record Thing : Type 0 where
  pub space : Space
  pub address : ℕ

-- an item that an instance or a component exports
pub record Export : Type 0 where
  pub space : Space
  pub name : List ℕ
  pub address : ℕ

-- an option of a canonical function, with the addresses of what it names
pub data HeldOption : Type 0 where
  HeldEncoding : (encoding : StringEncoding) → HeldOption
  HeldMemory : (memory : ℕ) → HeldOption
  HeldRealloc : (function : ℕ) → HeldOption
  HeldPostReturn : (function : ℕ) → HeldOption
  HeldAsync : HeldOption
  HeldCallback : (function : ℕ) → HeldOption

-- An opaque core item, by what it is: a lowering of a function; an intrinsic by its name, what its
-- operand is, and its options; or what a user instance exports under a name.
pub data CoreItem : Type 0 where
  Lowering : (function : ℕ) (options : List HeldOption) → CoreItem
  IntrinsicOf : (name : Intrinsic) (operand : Option Tree) (options : List HeldOption) → CoreItem
  ExportedBy : (instance : ℕ) (name : List ℕ) → CoreItem

-- a function, by what it is, with its type: an import, or a lift of a core function
pub data Function : Type 0 where
  Imported : (origin : Origin) (type : FunctionTree) → Function
  Lifting : (core : ℕ) (options : List HeldOption) (type : FunctionTree) → Function

-- A type of values or of functions is a tree. An imported resource is known by where it is
-- imported, one that the component defines by its number among those, with the core function that
-- is its destructor, if it has one; and an instance type says what an import of it exports.
pub data TypeItem : Type 0 where
  TreeOf : (tree : TypeTree) → TypeItem
  ImportedResource : (origin : Origin) → TypeItem
  OwnResource : (number : ℕ) (destructor : Option ℕ) → TypeItem
  InstanceTypeOf : (members : List Member) (around : List (List Thing)) → TypeItem

-- what a type denotes
abbrev pub item_tree : TypeItem → TypeTree
item_tree (TreeOf tree) = tree
item_tree (ImportedResource origin) = OfValues (ResourceAt (ImportedAt origin))
item_tree (OwnResource number destructor) = OfValues (ResourceAt (DefinedAt number))
item_tree (InstanceTypeOf members around) = OfOthers

-- how many resources the component has defined
abbrev pub own_resources : List TypeItem → ℕ
own_resources [] = 0
own_resources (OwnResource number destructor ∷ items) = suc (own_resources items)
own_resources (item ∷ items) = own_resources items

abbrev pub tree_held : List TypeItem → ℕ → TypeTree
tree_held types address = elim (slice_get types address) [ None ↦ OfOthers | Some t ↦ item_tree t ]

-- a nested component: its definitions, and the scopes around it, innermost first
pub record ComponentItem : Type 0 where
  pub definitions : List Item
  pub around : List (List Thing)

-- an instance of a core module: the number of the module, what each of its imports was given, in their order, and what
-- it exports
pub record ModuleInstance : Type 0 where
  pub module_number : ℕ
  pub given : List Thing
  pub exports : List Export

-- The part of the state that only grows. Core functions, tables and memories are in `code`, globals in the part
-- that a run changes. What an opaque function or a global of a user module is, is in `known`, at its index. A
-- core instance is a map from names to items, an instance one from sorts and names. What was made of each core
-- module is in `module_instances`.
pub record Store : Type 0 where
  pub core_modules : List (List ℕ)
  pub code : CodeStore
  pub known : List CoreItem
  pub core_instances : List (List Export)
  pub functions : List Function
  pub types : List TypeItem
  pub components : List ComponentItem
  pub instances : List (List Export)
  pub module_instances : List ModuleInstance
