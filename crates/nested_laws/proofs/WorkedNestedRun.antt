-- Worked examples: a nested component with two functions of one type is instantiated, one with a
-- resource and its handle, and one with a type that is given as equal to its definition.
use Rattle.std.proofs.Common.{◌≡◌, ℕ, false, List, [], ◌∷◌, refl, Some, None, arith}
use Rattle.std.specs.Prelude.{codes}
use Rattle.comp_bytes.specs.declared.space.Space.TheVariants as spaces
use Rattle.comp_bytes.specs.declared.space.Sort.TheVariants as sorts
use Rattle.comp_bytes.specs.declared.types.ExternName.{ExternName}
use Rattle.comp_bytes.specs.declared.types.DefinedType.TheVariants as defined
use Rattle.comp_bytes.specs.declared.types.Description.TheVariants as descriptions
use Rattle.comp_bytes.specs.declared.types.TypeDef.TheVariants as types
use Rattle.comp_bytes.specs.declared.def.Item.{Item}
use Rattle.comp_bytes.specs.declared.def.Item.TheVariants as items
use Rattle.core_runs.specs.Store.{Now, Store as CodeStore}
use Rattle.comp_trees.specs.Trees.{Tree, Origin, ImportedAt, ResourceAt, OwnOf, StreamOf, Absent, FunctionTree}
use Rattle.comp_trees.specs.DefinedTrees.{TypeTree, OfValues, OfFunctions, OfOthers}
use Rattle.comp_trees.specs.Members.{IsOfFunctions}
use Rattle.nested_terms.specs.Nested.{NestedFunction, ExportedFunction, empty_scope, function_named, exports_after, AreItemsRight}
use Rattle.comp_runs.specs.Store.{Store, Export, Function, Imported, TreeOf, ImportedResource, ComponentItem}
use Rattle.comp_runs.specs.Machine.{Machine, Done, Stuck}
use Rattle.comp_runs.specs.Running.{instantiate_component}
use Rattle.nested_laws.specs.NestedRuns.{FindsArgument, RunsNested}
use Rattle.nested_laws.proofs.Instance.{nested_runs}
use Rattle.nested_laws.proofs.Exports.{function_first, finds_argument}

abbrev named : List ℕ → ExternName
named text = record { name = text; version_suffix = None }

abbrev nested : List Item → ComponentItem
nested all = record { definitions = all; around = [] }

-- ---- two functions of equal type: the type is written once for the imports and once for the exports

abbrev no_parts : FunctionTree
no_parts = record { is_async = false; params = []; result = None }

abbrev func : Item
func = items.Type (types.Func (record { async_ = false; params = []; result = None }))

abbrev two : List Item
two =
    func
    ∷ items.Import (named (codes "import-func-f")) (descriptions.Func 0)
    ∷ items.Import (named (codes "import-func-g")) (descriptions.Func 0)
    ∷ func
    ∷ items.Export (named (codes "f")) sorts.Func 0 (Some (descriptions.Func 1))
    ∷ items.Export (named (codes "g")) sorts.Func 1 (Some (descriptions.Func 1))
    ∷ []

-- two imported functions, at the addresses 0 and 1, are in the store
abbrev function_at : ℕ → Function
function_at number = Imported (record { number = number; inner = None }) no_parts

abbrev stored : CodeStore → Store
stored code = record {
  core_modules = [];
  code = code;
  known = [];
  core_instances = [];
  functions = function_at 0 ∷ function_at 1 ∷ [];
  types = [];
  components = [];
  instances = [];
  module_instances = [];
}

abbrev start : CodeStore → Now → Machine
start code now = record { scope = record { items = []; around = []; exports = []; imports = 2 }; store = stored code; now = now }

-- they are given the other way round
abbrev of_f : Export
of_f = record { space = spaces.Func; name = codes "import-func-f"; address = 1 }

abbrev of_g : Export
of_g = record { space = spaces.Func; name = codes "import-func-g"; address = 0 }

-- two types and an instance are made, which exports the two functions
abbrev exported : List Export
exported = record { space = spaces.Func; name = codes "f"; address = 1 } ∷ record { space = spaces.Func; name = codes "g"; address = 0 } ∷ []

abbrev after : CodeStore → Now → Machine
after code now = record {
  scope = record { items = record { space = spaces.Instance; address = 0 } ∷ []; around = []; exports = []; imports = 2 };
  store = record (stored code) { types = TreeOf (OfFunctions no_parts) ∷ TreeOf (OfFunctions no_parts) ∷ []; instances = exported ∷ [] };
  now = now;
}

runs_row : (code : CodeStore) (now : Now) → instantiate_component [] (nested two) (of_g ∷ of_f ∷ []) (start code now) (λ m. Done m) ≡ Done (after code now)
runs_row code now = refl

-- an argument is missing, or is of a type
missing_row : (code : CodeStore) (now : Now) → instantiate_component [] (nested two) (of_f ∷ []) (start code now) (λ m. Done m) ≡ Stuck
missing_row code now = refl

other_space_row : (code : CodeStore) (now : Now) → instantiate_component [] (nested two) (of_f ∷ record of_g { space = spaces.Type } ∷ []) (start code now) (λ m. Done m) ≡ Stuck
other_space_row code now = refl

-- its items are right, so that it runs by the law too
abbrev no_types : List ℕ → TypeTree
no_types name = OfOthers

is_function : IsOfFunctions (OfFunctions no_parts ∷ []) 0
is_function = record { type = no_parts; tree = refl }

two_right : AreItemsRight no_types empty_scope two
two_right = (refl, (is_function, (is_function, (refl, ((omega arith, omega arith, refl), ((omega arith, omega arith, refl), tt))))))

row_by_law : (code : CodeStore) (now : Now) → RunsNested [] no_types (nested two) (of_g ∷ of_f ∷ []) (start code now)
row_by_law code now =
    nested_runs [] no_types (nested two) (of_g ∷ of_f ∷ []) (start code now) two_right (record { export = of_f; found = refl }, (record { export = of_g; found = refl }, tt))

-- the law's instance exports the argument for `g` as `g`
abbrev second : NestedFunction
second = record { argument = codes "import-func-g"; type = OfFunctions no_parts }

second_row : function_named (codes "g") (exports_after no_types empty_scope two) ≡ Some second
second_row = refl

second_by_law : function_named (codes "g") (exports_after no_types empty_scope two) ≡ Some second
second_by_law = function_first (codes "g") (ExportedFunction (codes "f") (record { argument = codes "import-func-f"; type = OfFunctions no_parts }) ∷ []) [] second refl

found_row : (code : CodeStore) (now : Now) → FindsArgument (of_g ∷ of_f ∷ []) (row_by_law code now).exports (codes "g") (codes "import-func-g")
found_row code now =
    finds_argument (row_by_law code now).types (of_g ∷ of_f ∷ []) (codes "g") (exports_after no_types empty_scope two) (row_by_law code now).exports second (row_by_law code now).each second_row

-- ---- a resource that is given, and a type that is made of it

abbrev origin : Origin
origin = record { number = 0; inner = Some (codes "r") }

abbrev resource : Tree
resource = ResourceAt (ImportedAt origin)

abbrev given : List ℕ → TypeTree
given name = OfValues resource

abbrev with_resource : List Item
with_resource =
    items.Import (named (codes "import-type-r")) descriptions.SubResource
    ∷ items.Type (types.Defined (defined.Own 0))
    ∷ items.Export (named (codes "r")) sorts.Type 0 None
    ∷ items.Export (named (codes "t")) sorts.Type 1 None
    ∷ []

-- the resource is in the store, at the address 0
abbrev with_type : CodeStore → Now → Machine
with_type code now = record (start code now) { store = record (stored code) { types = ImportedResource origin ∷ [] } }

abbrev of_r : Export
of_r = record { space = spaces.Type; name = codes "import-type-r"; address = 0 }

-- the instance exports the resource that was given, and a new type, which is its handle
abbrev after_resource : CodeStore → Now → Machine
after_resource code now = record {
  scope = record { items = record { space = spaces.Instance; address = 0 } ∷ []; around = []; exports = []; imports = 2 };
  store = record (stored code) {
    types = ImportedResource origin ∷ TreeOf (OfValues (OwnOf resource)) ∷ [];
    instances = (record { space = spaces.Type; name = codes "r"; address = 0 } ∷ record { space = spaces.Type; name = codes "t"; address = 1 } ∷ []) ∷ [];
  };
  now = now;
}

resource_row : (code : CodeStore) (now : Now) → instantiate_component [] (nested with_resource) (of_r ∷ []) (with_type code now) (λ m. Done m) ≡ Done (after_resource code now)
resource_row code now = refl

resource_right : AreItemsRight given empty_scope with_resource
resource_right = (record { resource = ImportedAt origin; same = refl }, (refl, (omega arith, (omega arith, tt))))

resource_by_law : (code : CodeStore) (now : Now) → RunsNested [] given (nested with_resource) (of_r ∷ []) (with_type code now)
resource_by_law code now =
    nested_runs [] given (nested with_resource) (of_r ∷ []) (with_type code now) resource_right
    (record { export = of_r; found = refl; is = record { item = ImportedResource origin; present = refl; denotes = refl } }, tt)

-- ---- a type that is given, and that equals a definition

abbrev stream : Tree
stream = StreamOf Absent

abbrev with_equal : List Item
with_equal =
    items.Type (types.Defined (defined.Stream None))
    ∷ items.Import (named (codes "import-type-t")) (descriptions.TypeEqual 0)
    ∷ items.Export (named (codes "t")) sorts.Type 1 None
    ∷ []

-- the type is in the store, at the address 0
abbrev with_stream : CodeStore → Now → Machine
with_stream code now = record (start code now) { store = record (stored code) { types = TreeOf (OfValues stream) ∷ [] } }

abbrev of_t : Export
of_t = record { space = spaces.Type; name = codes "import-type-t"; address = 0 }

-- the instance exports the type that was given, and not the definition
abbrev after_equal : CodeStore → Now → Machine
after_equal code now = record {
  scope = record { items = record { space = spaces.Instance; address = 0 } ∷ []; around = []; exports = []; imports = 2 };
  store = record (stored code) {
    types = TreeOf (OfValues stream) ∷ TreeOf (OfValues stream) ∷ [];
    instances = (record { space = spaces.Type; name = codes "t"; address = 0 } ∷ []) ∷ [];
  };
  now = now;
}

equal_row : (code : CodeStore) (now : Now) → instantiate_component [] (nested with_equal) (of_t ∷ []) (with_stream code now) (λ m. Done m) ≡ Done (after_equal code now)
equal_row code now = refl

equal_right : AreItemsRight no_types empty_scope with_equal
equal_right = (refl, (omega arith, (omega arith, tt)))

equal_by_law : (code : CodeStore) (now : Now) → RunsNested [] no_types (nested with_equal) (of_t ∷ []) (with_stream code now)
equal_by_law code now =
    nested_runs [] no_types (nested with_equal) (of_t ∷ []) (with_stream code now) equal_right
    (record { export = of_t; found = refl; is = record { item = TreeOf (OfValues stream); present = refl; denotes = refl } }, tt)
