-- A worked example: an instance of a record type and of a function that takes it is imported.
use Rattle.std.proofs.Common.{◌≡◌, ℕ, false, List, [], ◌∷◌, refl, Some, None, arith}
use Rattle.std.specs.Prelude.{codes}
use Rattle.standard_kinds.specs.declared.kinds.Primitive.TheVariants as primitives
use Rattle.comp_bytes.specs.declared.space.Space.TheVariants as spaces
use Rattle.comp_bytes.specs.declared.types.ExternName.{ExternName}
use Rattle.comp_bytes.specs.declared.types.ComponentValType.TheVariants as values
use Rattle.comp_bytes.specs.declared.types.DefinedType.TheVariants as defined
use Rattle.comp_bytes.specs.declared.types.TypeDef.TheVariants as types
use Rattle.comp_bytes.specs.declared.types.Alias.TheVariants as aliases
use Rattle.comp_bytes.specs.declared.types.Description.TheVariants as descriptions
use Rattle.comp_bytes.specs.declared.types.Member.{Member}
use Rattle.comp_bytes.specs.declared.types.Member.TheVariants as members
use Rattle.core_runs.specs.Store.{Now, Store as CodeStore}
use Rattle.comp_trees.specs.Trees.{Origin, ImportedAt, ResourceAt, Tree, PrimitiveOf, OwnOf, RecordOf, Nil, Cons, FunctionTree}
use Rattle.comp_trees.specs.DefinedTrees.{OfValues, OfFunctions}
use Rattle.comp_trees.specs.Members.{AreMembersRight, member_trees, function_exported}
use Rattle.comp_inventories.specs.Inventories.{surroundings_of}
use Rattle.comp_runs.specs.Store.{Store, Imported, TypeItem, TreeOf, ImportedResource, InstanceTypeOf}
use Rattle.comp_runs.specs.Machine.{Machine, Done}
use Rattle.comp_runs.specs.Instances.{instance_of_type}
use Rattle.instance_laws.specs.Instantiated.{RunsInstanceType}
use Rattle.instance_laws.proofs.Members.{instance_runs}

abbrev named : List ℕ → ExternName
named name = record { name = name; version_suffix = None }

-- a record, under the name r, and a function f of it
abbrev record_and_function : List Member
record_and_function =
    members.Type (types.Defined (defined.Record (record { name = codes "n"; ty = values.Primitive primitives.U8 } ∷ [])))
    ∷ members.Export (named (codes "r")) (descriptions.TypeEqual 0)
    ∷ members.Type (types.Func (record { async_ = false; params = record { name = codes "p"; ty = values.Defined 1 } ∷ []; result = None }))
    ∷ members.Export (named (codes "f")) (descriptions.Func 2)
    ∷ []

abbrev record_tree : Tree
record_tree = RecordOf (codes "n" ∷ []) (Cons (PrimitiveOf primitives.U8) Nil)

abbrev tree_of_function : FunctionTree
tree_of_function = record { is_async = false; params = record { name = codes "p"; tree = record_tree } ∷ []; result = None }

abbrev origin : Origin
origin = record { number = 3; inner = None }

-- nothing was made before
abbrev nothing : CodeStore → Store
nothing code = record {
  core_modules = [];
  code = code;
  known = [];
  core_instances = [];
  functions = [];
  types = [];
  components = [];
  instances = [];
  module_instances = [];
}

abbrev start : CodeStore → Now → Machine
start code now = record { scope = record { items = []; around = []; exports = []; imports = 4 }; store = nothing code; now = now }

-- two types, a function and an instance are made, which exports the record and the function
abbrev after : CodeStore → Now → Machine
after code now = record {
  scope = record { items = record { space = spaces.Instance; address = 0 } ∷ []; around = []; exports = []; imports = 4 };
  store = record (nothing code) {
    types = TreeOf (OfValues record_tree) ∷ TreeOf (OfFunctions tree_of_function) ∷ [];
    functions = Imported (record { number = 3; inner = Some (codes "f") }) tree_of_function ∷ [];
    instances = (record { space = spaces.Type; name = codes "r"; address = 0 } ∷ record { space = spaces.Func; name = codes "f"; address = 0 } ∷ []) ∷ [];
  };
  now = now;
}

runs_row : (code : CodeStore) (now : Now) → instance_of_type origin (InstanceTypeOf record_and_function ([] ∷ [])) (start code now) (λ address m. Done m) ≡ Done (after code now)
runs_row code now = refl

-- its members are right, so that it runs by the law too
right_row : AreMembersRight (surroundings_of 3 []) [] record_and_function
right_row = (refl, (omega arith, (refl, (record { type = tree_of_function; tree = refl }, tt))))

row_by_law : (code : CodeStore) (now : Now) → RunsInstanceType origin [] record_and_function ([] ∷ []) (start code now)
row_by_law code now = instance_runs origin [] record_and_function [] [] (start code now) tt right_row

-- the type of f
function_row : function_exported (member_trees (surroundings_of 3 []) [] record_and_function) (codes "f") record_and_function ≡ OfFunctions tree_of_function
function_row = refl

-- ---- a type of the next scope out, a resource, and its handle

abbrev alias_and_resource : List Member
alias_and_resource =
    members.Alias (aliases.Outer 1 0)
    ∷ members.Export (named (codes "t")) (descriptions.TypeEqual 0)
    ∷ members.Export (named (codes "r")) descriptions.SubResource
    ∷ members.Type (types.Defined (defined.Own 2))
    ∷ members.Export (named (codes "h")) (descriptions.TypeEqual 3)
    ∷ []

abbrev a_byte : TypeItem
a_byte = TreeOf (OfValues (PrimitiveOf primitives.U8))

abbrev in_import : Origin
in_import = record { number = 3; inner = Some (codes "r") }

-- the scope has one type, a byte
abbrev with_byte : CodeStore → Now → Machine
with_byte code now = record {
  scope = record { items = record { space = spaces.Type; address = 0 } ∷ []; around = []; exports = []; imports = 4 };
  store = record (nothing code) { types = a_byte ∷ [] };
  now = now;
}

-- the aliased type is the byte, and the resource is new
abbrev with_handle : CodeStore → Now → Machine
with_handle code now = record {
  scope = record { items = record { space = spaces.Type; address = 0 } ∷ record { space = spaces.Instance; address = 0 } ∷ []; around = []; exports = []; imports = 4 };
  store = record (nothing code) {
    types = a_byte ∷ ImportedResource in_import ∷ TreeOf (OfValues (OwnOf (ResourceAt (ImportedAt in_import)))) ∷ [];
    instances =
        (record { space = spaces.Type; name = codes "t"; address = 0 } ∷ record { space = spaces.Type; name = codes "r"; address = 1 } ∷ record { space = spaces.Type; name = codes "h"; address = 2 } ∷ []) ∷ [];
  };
  now = now;
}

outer_row : (code : CodeStore) (now : Now) → instance_of_type origin (InstanceTypeOf alias_and_resource ((record { space = spaces.Type; address = 0 } ∷ []) ∷ [])) (with_byte code now) (λ address m. Done m) ≡ Done (with_handle code now)
outer_row code now = refl

outer_right : AreMembersRight (surroundings_of 3 (OfValues (PrimitiveOf primitives.U8) ∷ [])) [] alias_and_resource
outer_right = ((refl, omega arith), (omega arith, (tt, (refl, (omega arith, tt)))))

-- a member that exports the record as a function isn't right
wrong_row : AreMembersRight (surroundings_of 3 []) (OfValues record_tree ∷ []) (members.Export (named (codes "f")) (descriptions.Func 0) ∷ []) → ⊥
wrong_row h = let e : OfValues record_tree ≡ OfFunctions h.0.type = h.0.tree in cc
