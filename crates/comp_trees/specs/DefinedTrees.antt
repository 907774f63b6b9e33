-- What the types of a component denote, by what the earlier types of their scope do (component model, explainer: type
-- definitions; binary: `valtype`, `defvaltype`, `functype`).
use Rattle.std.specs.Prelude.{ℕ, List, map, get_or, Option, Some, None, option_map}
use Rattle.comp_bytes.specs.declared.types.ComponentValType.{ComponentValType}
use Rattle.comp_bytes.specs.declared.types.ComponentValType.TheVariants as values
use Rattle.comp_bytes.specs.declared.types.DefinedType.{DefinedType}
use Rattle.comp_bytes.specs.declared.types.DefinedType.TheVariants as defined
use Rattle.comp_bytes.specs.declared.types.FuncTypeDef.{FuncTypeDef}
use Rattle.comp_trees.specs.Trees.{Tree, Absent, PrimitiveOf, RecordOf, TupleOf, VariantOf, EnumOf, FlagsOf, ListOf, OptionOf, ResultOf, OwnOf, BorrowOf, StreamOf, FutureOf, Unknown, trees_of, FunctionTree}

-- what a type index denotes
pub data TypeTree : Type 0 where
  -- a type of values, or a resource
  OfValues : Tree → TypeTree
  OfFunctions : FunctionTree → TypeTree
  -- no type of values or functions: one of instances, or nothing
  OfOthers : TypeTree

abbrev pub values_of : TypeTree → Tree
values_of (OfValues t) = t
values_of (OfFunctions f) = Unknown
values_of OfOthers = Unknown

-- the type of values, or the resource, with a given index; a scope is what its type indices denote
abbrev pub tree_at : List TypeTree → ℕ → Tree
tree_at scope index = values_of (get_or scope index OfOthers)

abbrev pub value_tree : List TypeTree → ComponentValType → Tree
value_tree scope (values.Primitive p) = PrimitiveOf p
value_tree scope (values.Defined index) = tree_at scope index

abbrev pub payload_tree : List TypeTree → Option ComponentValType → Tree
payload_tree scope None = Absent
payload_tree scope (Some t) = value_tree scope t

abbrev pub defined_tree : List TypeTree → DefinedType → Tree
defined_tree scope (defined.Primitive p) = PrimitiveOf p
defined_tree scope (defined.Record fields) = RecordOf (map (λ f. f.name) fields) (trees_of (map (λ f. value_tree scope f.ty) fields))
defined_tree scope (defined.Variant cases) = VariantOf (map (λ c. c.name) cases) (trees_of (map (λ c. payload_tree scope c.ty) cases))
defined_tree scope (defined.List t) = ListOf (value_tree scope t)
defined_tree scope (defined.Tuple members) = TupleOf (trees_of (map (λ t. value_tree scope t) members))
defined_tree scope (defined.Flags names) = FlagsOf names
defined_tree scope (defined.Enum names) = EnumOf names
defined_tree scope (defined.Option t) = OptionOf (value_tree scope t)
defined_tree scope (defined.Result ok err) = ResultOf (payload_tree scope ok) (payload_tree scope err)
defined_tree scope (defined.Own index) = OwnOf (tree_at scope index)
defined_tree scope (defined.Borrow index) = BorrowOf (tree_at scope index)
defined_tree scope (defined.Stream t) = StreamOf (payload_tree scope t)
defined_tree scope (defined.Future t) = FutureOf (payload_tree scope t)

abbrev pub function_tree : List TypeTree → FuncTypeDef → FunctionTree
function_tree scope f =
    record {
      is_async = f.async_;
      params = map (λ p. record { name = p.name; tree = value_tree scope p.ty }) f.params;
      result = option_map (λ t. value_tree scope t) f.result;
    }
