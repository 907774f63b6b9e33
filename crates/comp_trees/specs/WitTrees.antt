-- The tree of a type of a resolve, and of a function (component model, WIT: types).
use Rattle.std.specs.Prelude.{ℕ, Bool, true, false, List, [], ◌∷◌, map, Option, Some, option_map}
use Rattle.wit_data.specs.declared.ids.TypeId.{TypeId}
use Rattle.wit_data.specs.declared.types.Type.{«Type» as Ty}
use Rattle.wit_data.specs.declared.types.TypeDefKind.{TypeDefKind}
use Rattle.wit_data.specs.declared.types.TypeDefKind.TheVariants as kinds
use Rattle.wit_data.specs.declared.types.TypeDef.{TypeDef}
use Rattle.wit_data.specs.declared.functions.FunctionKind.{FunctionKind}
use Rattle.wit_data.specs.declared.functions.FunctionKind.TheVariants as functions
use Rattle.wit_data.specs.declared.functions.Function.{Function}
use Rattle.wit_data.specs.Values.{Making, value}
use Rattle.comp_trees.specs.Trees.{Tree, Absent, PrimitiveOf, RecordOf, TupleOf, VariantOf, EnumOf, FlagsOf, ListOf, OptionOf, ResultOf, OwnOf, BorrowOf, StreamOf, FutureOf, Resource, ResourceAt, trees_of, FunctionTree}

abbrev pub first : List Tree → Tree
first [] = Absent
first (t ∷ ts) = t

abbrev pub second : List Tree → Tree
second [] = Absent
second (t ∷ ts) = first ts

-- The tree of the type with a given index, by its kind and the trees of its parts (`parts`; an option has two of
-- them, of which the first is none). `origin` says what each resource is. Another name for a type has that
-- type's tree.
abbrev pub kind_tree : (TypeId → Resource) → ℕ → TypeDefKind → List Tree → Tree
kind_tree origin n (kinds.Record fields) ts = RecordOf (map (λ f. f.name) fields) (trees_of ts)
kind_tree origin n (kinds.Variant cases) ts = VariantOf (map (λ c. c.name) cases) (trees_of ts)
kind_tree origin n (kinds.Enum names) ts = EnumOf names
kind_tree origin n (kinds.Flags names) ts = FlagsOf names
kind_tree origin n (kinds.Tuple types) ts = TupleOf (trees_of ts)
kind_tree origin n (kinds.«Option» t) ts = OptionOf (second ts)
kind_tree origin n (kinds.«Result» r) ts = ResultOf (first ts) (second ts)
kind_tree origin n (kinds.«List» t) ts = ListOf (first ts)
kind_tree origin n (kinds.Own id) ts = OwnOf (first ts)
kind_tree origin n (kinds.Borrow id) ts = BorrowOf (first ts)
kind_tree origin n kinds.Resource ts = ResourceAt (origin (record { index = n }))
kind_tree origin n (kinds.Stream t) ts = StreamOf (first ts)
kind_tree origin n (kinds.Future t) ts = FutureOf (first ts)
kind_tree origin n (kinds.Alias t) ts = first ts

abbrev pub making_trees : (TypeId → Resource) → Making Tree
making_trees origin = record { absent = Absent; simple = PrimitiveOf; made = kind_tree origin }

-- the tree of a type among these types
abbrev pub wit_tree : (TypeId → Resource) → List TypeDef → Option Ty → Tree
wit_tree origin types part = value (making_trees origin) types part

abbrev pub is_async : FunctionKind → Bool
is_async functions.Freestanding = false
is_async functions.AsyncFreestanding = true
is_async (functions.Method id) = false
is_async (functions.AsyncMethod id) = true
is_async (functions.Static id) = false
is_async (functions.AsyncStatic id) = true
is_async (functions.Constructor id) = false

-- the type of a function
abbrev pub wit_function_tree : (TypeId → Resource) → List TypeDef → Function → FunctionTree
wit_function_tree origin types f =
    record {
      is_async = is_async f.kind;
      params = map (λ p. record { name = p.name; tree = wit_tree origin types (Some p.ty) }) f.params;
      result = option_map (λ t. wit_tree origin types (Some t)) f.result;
    }
