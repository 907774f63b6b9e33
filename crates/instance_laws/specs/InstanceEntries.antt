-- What an inventory says of types of instances and of imported instances, as a run holds them.
use Rattle.std.specs.Prelude.{ℕ, ◌≡◌, List, [], ◌∷◌, ◌++◌, Some, length, slice_get}
use Rattle.std.specs.List.{AllZip}
use Rattle.comp_bytes.specs.declared.space.Space.TheVariants as spaces
use Rattle.comp_bytes.specs.declared.space.ComponentExportKind.TheVariants as exports
use Rattle.comp_bytes.specs.declared.types.Alias.TheVariants as aliases
use Rattle.comp_bytes.specs.declared.types.Description.TheVariants as descriptions
use Rattle.comp_bytes.specs.declared.types.Member.{Member}
use Rattle.core_runs.specs.Store.{Now}
use Rattle.comp_trees.specs.Trees.{Origin, FunctionTree}
use Rattle.comp_trees.specs.DefinedTrees.{TypeTree, OfFunctions}
use Rattle.comp_trees.specs.Members.{AreMembersRight}
use Rattle.comp_inventories.specs.Inventories.{FunctionEntry, InstanceEntry, ImportedInstance, NestedInstance, OtherInstance, surroundings_of}
use Rattle.nested_terms.specs.Nested.{NestedExport, type_named}
use Rattle.comp_runs.specs.Store.{Thing, Export, Function, Imported, TypeItem, InstanceTypeOf, own_resources}
use Rattle.comp_runs.specs.Machine.{Machine, Next}
use Rattle.comp_runs.specs.Instances.{aliased, described, instance_of_type}
use Rattle.instance_laws.specs.Instantiated.{IsHeldAs, AreHeldAs, member_exports, IsExportedAs, with_now, with_instance, FindsType}

-- a type of instances with these members, of a scope whose types denote `outer`
pub record IsInstanceType (types : List TypeItem) (outer : List TypeTree) (all : List Member) (item : TypeItem) : Type 0 where
  pub next_out : List Thing
  pub further : List (List Thing)
  pub is : item ≡ InstanceTypeOf all (next_out ∷ further)
  pub outer_held : AreHeldAs types outer next_out

-- an instance with these exports, imported with this number, has what the members of its type say
pub record IsImportedInstance (number : ℕ) (outer : List TypeTree) (all : List Member) (types : List TypeItem) (functions : List Function) (exports : List Export) : Type 0 where
  pub right : AreMembersRight (surroundings_of number outer) [] all
  pub each : AllZip (IsExportedAs number types functions) (member_exports (surroundings_of number outer) [] all) exports

-- an instance with these exports has each type that a nested component is said to export
pub record HasTypesOf (exported : List NestedExport) (types : List TypeItem) (exports : List Export) : Type 0 where
  pub each : (name : List ℕ) (tree : TypeTree) → type_named name exported ≡ Some tree → FindsType types exports name tree

-- an instance with these exports is what the entry of an inventory says
abbrev pub IsInstanceEntry : List TypeItem → List Function → InstanceEntry → List Export → Type 0
IsInstanceEntry types functions (ImportedInstance number outer all) exports = IsImportedInstance number outer all types functions exports
IsInstanceEntry types functions (NestedInstance exported) exports = HasTypesOf exported types exports
IsInstanceEntry types functions OtherInstance exports = Unit {0}

-- an import of the type with this index runs: there is one instance more, no resource is defined,
-- and what was at an address is there
pub record RunsImport (origin : Origin) (outer : List TypeTree) (all : List Member) (index : ℕ) (m : Machine) : Type 0 where
  pub types : List TypeItem
  pub functions : List Function
  pub exports : List Export
  pub more_types : List TypeItem
  pub more_functions : List Function
  pub types_grew : types ≡ m.store.types ++ more_types
  pub none_defined : own_resources more_types ≡ 0
  pub functions_grew : functions ≡ m.store.functions ++ more_functions
  pub is : IsImportedInstance origin.number outer all types functions exports
  pub runs : (now : Now) (next : ℕ → Next) → described instance_of_type origin (descriptions.Instance index) (with_now m now) next ≡ next (length m.store.instances) (with_instance (with_now m now) types functions exports)

-- an alias of a function, and of a type, is what its entry says
pub record AliasesFunction (m : Machine) (instance : ℕ) (name : List ℕ) (entry : FunctionEntry) : Type 0 where
  pub address : ℕ
  pub origin : Origin
  pub type : FunctionTree
  pub at : aliased (aliases.Export exports.Func instance name) m ≡ Some (record { space = spaces.Func; address = address })
  pub present : slice_get m.store.functions address ≡ Some (Imported origin type)
  pub same : record { origin = Some origin; type = OfFunctions type } ≡ entry

pub record AliasesType (m : Machine) (instance : ℕ) (name : List ℕ) (tree : TypeTree) : Type 0 where
  pub address : ℕ
  pub at : aliased (aliases.Export exports.Type instance name) m ≡ Some (record { space = spaces.Type; address = address })
  pub is : IsHeldAs m.store.types tree address
