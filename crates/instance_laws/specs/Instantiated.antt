-- What a run has after the members of an instance type: what the type indices denote, and what the instance exports
-- (component model, explainer: `instancedecl`, instance types).
use Rattle.std.specs.Prelude.{ℕ, ◌≡◌, List, [], ◌∷◌, ◌++◌, Some, get_or, filter, length, slice_get}
use Rattle.std.specs.List.{AllZip}
use Rattle.comp_bytes.specs.Spaces.{description_space}
use Rattle.comp_bytes.specs.declared.space.Space.{Space}
use Rattle.comp_bytes.specs.declared.space.Space.TheVariants as spaces
use Rattle.comp_bytes.specs.declared.types.ExternName.{ExternName}
use Rattle.comp_bytes.specs.declared.types.Description.{Description}
use Rattle.comp_bytes.specs.declared.types.Description.TheVariants as descriptions
use Rattle.comp_bytes.specs.declared.types.Member.{Member}
use Rattle.comp_bytes.specs.declared.types.Member.TheVariants as members
use Rattle.core_runs.specs.Store.{Now}
use Rattle.comp_trees.specs.Trees.{Origin, FunctionTree}
use Rattle.comp_trees.specs.DefinedTrees.{TypeTree, OfFunctions, OfOthers}
use Rattle.comp_trees.specs.Members.{Surroundings, member_tree, with_member, member_trees}
use Rattle.comp_inventories.specs.Inventories.{surroundings_of}
use Rattle.comp_runs.specs.Store.{Thing, Export, Function, Imported, TypeItem, InstanceTypeOf, item_tree, own_resources}
use Rattle.comp_runs.specs.Machine.{Machine, Next, is_of, export_of, new_instance}
use Rattle.comp_runs.specs.Instances.{type_scope, each_member, instance_of_type}

-- the type at this address denotes this
pub record IsHeldAs (types : List TypeItem) (tree : TypeTree) (address : ℕ) : Type 0 where
  pub item : TypeItem
  pub present : slice_get types address ≡ Some item
  pub denotes : item_tree item ≡ tree

abbrev pub IsThingHeldAs : List TypeItem → TypeTree → Thing → Type 0
IsThingHeldAs types tree t = IsHeldAs types tree t.address

-- the types among these items denote these trees, in their order
abbrev pub AreHeldAs : List TypeItem → List TypeTree → List Thing → Type 0
AreHeldAs types trees items = AllZip (IsThingHeldAs types) trees (filter (is_of spaces.Type) items)

-- the types of the scope denote `scope`, and those of the next scope out `outer`
pub record IsScopeOf (outer scope : List TypeTree) (m : Machine) : Type 0 where
  pub next_out : List Thing
  pub further : List (List Thing)
  pub around : m.scope.around ≡ next_out ∷ further
  pub outer_held : AreHeldAs m.store.types outer next_out
  pub held : AreHeldAs m.store.types scope m.scope.items

-- an export that a member says, with what its type or its function's type denotes
pub record MemberExport : Type 0 where
  pub name : List ℕ
  pub space : Space
  pub tree : TypeTree

abbrev pub described_tree : Surroundings → List TypeTree → ExternName → Description → TypeTree
described_tree s scope name (descriptions.Func index) = get_or scope index OfOthers
described_tree s scope name description = member_tree s scope (members.Export name description)

-- what a member exports, and what members export, in their order
abbrev pub exports_of_member : Surroundings → List TypeTree → Member → List MemberExport
exports_of_member s scope (members.Export name description) =
    record { name = name.name; space = description_space description; tree = described_tree s scope name description } ∷ []
exports_of_member s scope member = []

abbrev pub member_exports : Surroundings → List TypeTree → List Member → List MemberExport
member_exports s scope [] = []
member_exports s scope (m ∷ ms) = exports_of_member s scope m ++ member_exports s (with_member s scope m) ms

-- the function at this address is the import of this name, with this type
pub record IsImportedFunction (number : ℕ) (functions : List Function) (name : List ℕ) (tree : TypeTree) (address : ℕ) : Type 0 where
  pub type : FunctionTree
  pub present : slice_get functions address ≡ Some (Imported (record { number = number; inner = Some name }) type)
  pub denotes : OfFunctions type ≡ tree

-- what is at the address of an export
abbrev pub IsItemOf : ℕ → List TypeItem → List Function → Space → List ℕ → TypeTree → ℕ → Type 0
IsItemOf number types functions spaces.Func name tree address = IsImportedFunction number functions name tree address
IsItemOf number types functions spaces.Type name tree address = IsHeldAs types tree address
IsItemOf number types functions space name tree address = ⊥

-- the export of an instance is what the member says
pub record IsExportedAs (number : ℕ) (types : List TypeItem) (functions : List Function) (x : MemberExport) (e : Export) : Type 0 where
  pub named : e.name ≡ x.name
  pub space : e.space ≡ x.space
  pub is : IsItemOf number types functions x.space x.name x.tree e.address

-- The machine has more: `trees` is what the types of its scope denote then, and `exported` what was
-- exported. What was at an address is there, and no resource is defined.
pub record Grown (number : ℕ) (trees : List TypeTree) (exported : List MemberExport) (m : Machine) : Type 0 where
  pub items : List Thing
  pub types : List TypeItem
  pub functions : List Function
  pub exports : List Export
  pub more_types : List TypeItem
  pub more_functions : List Function
  pub more_exports : List Export
  pub types_grew : types ≡ m.store.types ++ more_types
  pub none_defined : own_resources more_types ≡ 0
  pub functions_grew : functions ≡ m.store.functions ++ more_functions
  pub exports_grew : exports ≡ m.scope.exports ++ more_exports
  pub held : AreHeldAs types trees items
  pub each : AllZip (IsExportedAs number types functions) exported more_exports

-- that machine: no other part of it is new
abbrev pub grown : {number : ℕ} {trees : List TypeTree} {exported : List MemberExport} (m : Machine) → Grown number trees exported m → Machine
grown m g = record m {
  scope = record m.scope { items = g.items; exports = g.exports };
  store = record m.store { types = g.types; functions = g.functions };
}

-- the machine, where a run has seen this so far
abbrev pub with_now : Machine → Now → Machine
with_now m now = record m { now = now }

-- the members run, whatever was seen so far
pub record RunMembers (number : ℕ) (outer scope : List TypeTree) (all : List Member) (m : Machine) : Type 0 where
  pub growth : Grown number (member_trees (surroundings_of number outer) scope all) (member_exports (surroundings_of number outer) scope all) m
  pub runs : (now : Now) (next : Next) → each_member number all (with_now m now) next ≡ next (with_now (grown m growth) now)
  pub scoped : type_scope (grown m growth) ≡ member_trees (surroundings_of number outer) scope all

-- the machine with an instance that has these exports
abbrev pub with_instance : Machine → List TypeItem → List Function → List Export → Machine
with_instance m types functions exports = new_instance exports (record m { store = record m.store { types = types; functions = functions } })

-- an import of an instance type runs: there is one instance more, with the exports that the members say
pub record RunsInstanceType (origin : Origin) (outer : List TypeTree) (all : List Member) (around : List (List Thing)) (m : Machine) : Type 0 where
  pub types : List TypeItem
  pub functions : List Function
  pub exports : List Export
  pub more_types : List TypeItem
  pub more_functions : List Function
  pub types_grew : types ≡ m.store.types ++ more_types
  pub none_defined : own_resources more_types ≡ 0
  pub functions_grew : functions ≡ m.store.functions ++ more_functions
  pub each : AllZip (IsExportedAs origin.number types functions) (member_exports (surroundings_of origin.number outer) [] all) exports
  pub runs : (now : Now) (next : ℕ → Next) → instance_of_type origin (InstanceTypeOf all around) (with_now m now) next ≡ next (length m.store.instances) (with_instance (with_now m now) types functions exports)

-- an export of a function is found by its name, and of a type
pub record FindsFunction (number : ℕ) (functions : List Function) (exports : List Export) (name : List ℕ) (tree : TypeTree) : Type 0 where
  pub export : Export
  pub found : export_of spaces.Func name exports ≡ Some export
  pub space : export.space ≡ spaces.Func
  pub is : IsImportedFunction number functions name tree export.address

pub record FindsType (types : List TypeItem) (exports : List Export) (name : List ℕ) (tree : TypeTree) : Type 0 where
  pub export : Export
  pub found : export_of spaces.Type name exports ≡ Some export
  pub space : export.space ≡ spaces.Type
  pub is : IsHeldAs types tree export.address
