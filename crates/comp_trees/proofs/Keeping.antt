-- What a type denotes, it denotes in each longer scope.
use Rattle.std.proofs.Common.{◌≡◌, ℕ, ◌<◌, Bool, List, [], ◌∷◌, ◌++◌, length, map, refl, ap, subst, ◌∙◌, Option, Some, None, option_map}
use Rattle.std.specs.List.{AllByRecursion, flat_map}
use Rattle.std.proofs.lemmas.List.{get_or_append_left}
use Rattle.comp_bytes.specs.declared.space.Space.TheVariants as spaces
use Rattle.comp_bytes.specs.declared.types.ComponentValType.{ComponentValType}
use Rattle.comp_bytes.specs.declared.types.ComponentValType.TheVariants as values
use Rattle.comp_bytes.specs.declared.types.Field.{Field}
use Rattle.comp_bytes.specs.declared.types.DefinedType.{DefinedType}
use Rattle.comp_bytes.specs.declared.types.DefinedType.TheVariants as defined
use Rattle.comp_bytes.specs.declared.types.FuncTypeDef.{FuncTypeDef}
use Rattle.comp_bytes.specs.declared.types.TypeDef.{TypeDef}
use Rattle.comp_bytes.specs.declared.types.TypeDef.TheVariants as types
use Rattle.comp_bytes.specs.References.{Reference, own, where_some, value_references, fields_references, defined_references, type_references}
use Rattle.comp_bytes.specs.Scopes.{InScope}
use Rattle.comp_trees.specs.Trees.{Resource, Tree, RecordOf, TupleOf, VariantOf, ListOf, OptionOf, ResultOf, OwnOf, BorrowOf, StreamOf, FutureOf, trees_of, ParamTree, FunctionTree}
use Rattle.comp_trees.specs.DefinedTrees.{TypeTree, OfValues, OfFunctions, OfOthers, values_of, tree_at, value_tree, payload_tree, defined_tree, function_tree}
use Rattle.comp_trees.specs.DefinedScopes.{type_tree}
use Rattle.comp_trees.specs.Laws.{TreesAreKept}

all_left : {X : Type 0} (P : X → Type 0) (xs ys : List X) → AllByRecursion P (xs ++ ys) → AllByRecursion P xs
all_left P [] ys a = tt
all_left P (x ∷ xs) ys a = (a.0, all_left P xs ys a.1)

all_right : {X : Type 0} (P : X → Type 0) (xs ys : List X) → AllByRecursion P (xs ++ ys) → AllByRecursion P ys
all_right P [] ys a = a
all_right P (x ∷ xs) ys a = all_right P xs ys a.1

-- A reference that keeps P to a type is within the shorter scope.
abbrev HasTypes : (Reference → Type 0) → List TypeTree → Type 0
HasTypes P trees = (index : ℕ) → P (own spaces.Type index) → index < length trees

index_kept : (P : Reference → Type 0) (trees more : List TypeTree) → HasTypes P trees → (index : ℕ) → P (own spaces.Type index) → tree_at (trees ++ more) index ≡ tree_at trees index
index_kept P trees more has index p = ap values_of (get_or_append_left trees more OfOthers index (has index p))

value_kept : (P : Reference → Type 0) (trees more : List TypeTree) → HasTypes P trees → (v : ComponentValType) → AllByRecursion P (value_references v) → value_tree (trees ++ more) v ≡ value_tree trees v
value_kept P trees more has (values.Primitive p) a = refl
value_kept P trees more has (values.Defined index) a = index_kept P trees more has index a.0

payload_kept : (P : Reference → Type 0) (trees more : List TypeTree) → HasTypes P trees → (v : Option ComponentValType) → AllByRecursion P (where_some value_references v) → payload_tree (trees ++ more) v ≡ payload_tree trees v
payload_kept P trees more has None a = refl
payload_kept P trees more has (Some v) a = value_kept P trees more has v a

-- the same of all in a list, whatever is made of each
each_kept : {X Y : Type 0} (P : Reference → Type 0) (refs : X → List Reference) (one other : X → Y) → ((x : X) → AllByRecursion P (refs x) → one x ≡ other x) → (xs : List X) → AllByRecursion P (flat_map refs xs) → map one xs ≡ map other xs
each_kept P refs one other same [] a = refl
each_kept P refs one other same (x ∷ xs) a =
    ap (λ y. y ∷ map one xs) (same x (all_left P (refs x) (flat_map refs xs) a))
    ∙ ap (λ ys. other x ∷ ys) (each_kept P refs one other same xs (all_right P (refs x) (flat_map refs xs) a))

abbrev with_name : List ℕ → Tree → ParamTree
with_name name tree = record { name = name; tree = tree }

abbrev the_param : List TypeTree → Field → ParamTree
the_param trees p = with_name p.name (value_tree trees p.ty)

abbrev with_parts : Bool → List ParamTree → Option Tree → FunctionTree
with_parts is_async params result = record { is_async = is_async; params = params; result = result }

param_kept : (P : Reference → Type 0) (trees more : List TypeTree) → HasTypes P trees → (p : Field) → AllByRecursion P (value_references p.ty) → the_param (trees ++ more) p ≡ the_param trees p
param_kept P trees more has p a = ap (λ (t : Tree). with_name p.name t) (value_kept P trees more has p.ty a)

result_kept : (P : Reference → Type 0) (trees more : List TypeTree) → HasTypes P trees → (v : Option ComponentValType) → AllByRecursion P (where_some value_references v) → option_map (λ t. value_tree (trees ++ more) t) v ≡ option_map (λ t. value_tree trees t) v
result_kept P trees more has None a = refl
result_kept P trees more has (Some v) a = ap Some (value_kept P trees more has v a)

defined_kept : (P : Reference → Type 0) (trees more : List TypeTree) → HasTypes P trees → (t : DefinedType) → AllByRecursion P (defined_references t) → defined_tree (trees ++ more) t ≡ defined_tree trees t
defined_kept P trees more has (defined.Primitive p) a = refl
defined_kept P trees more has (defined.Record fields) a =
    ap (λ ts. RecordOf (map (λ f. f.name) fields) (trees_of ts)) (each_kept P (λ f. value_references f.ty) (λ f. value_tree (trees ++ more) f.ty) (λ f. value_tree trees f.ty) (λ f b. value_kept P trees more has f.ty b) fields a)
defined_kept P trees more has (defined.Variant cases) a =
    ap (λ ts. VariantOf (map (λ c. c.name) cases) (trees_of ts)) (each_kept P (λ c. where_some value_references c.ty) (λ c. payload_tree (trees ++ more) c.ty) (λ c. payload_tree trees c.ty) (λ c b. payload_kept P trees more has c.ty b) cases a)
defined_kept P trees more has (defined.List t) a = ap ListOf (value_kept P trees more has t a)
defined_kept P trees more has (defined.Tuple members) a =
    ap (λ ts. TupleOf (trees_of ts)) (each_kept P value_references (λ t. value_tree (trees ++ more) t) (λ t. value_tree trees t) (λ t b. value_kept P trees more has t b) members a)
defined_kept P trees more has (defined.Flags names) a = refl
defined_kept P trees more has (defined.Enum names) a = refl
defined_kept P trees more has (defined.Option t) a = ap OptionOf (value_kept P trees more has t a)
defined_kept P trees more has (defined.Result ok err) a =
    ap (λ t. ResultOf t (payload_tree (trees ++ more) err)) (payload_kept P trees more has ok (all_left P (where_some value_references ok) (where_some value_references err) a))
    ∙ ap (λ t. ResultOf (payload_tree trees ok) t) (payload_kept P trees more has err (all_right P (where_some value_references ok) (where_some value_references err) a))
defined_kept P trees more has (defined.Own index) a = ap OwnOf (index_kept P trees more has index a.0)
defined_kept P trees more has (defined.Borrow index) a = ap BorrowOf (index_kept P trees more has index a.0)
defined_kept P trees more has (defined.Stream t) a = ap StreamOf (payload_kept P trees more has t a)
defined_kept P trees more has (defined.Future t) a = ap FutureOf (payload_kept P trees more has t a)

function_kept : (P : Reference → Type 0) (trees more : List TypeTree) → HasTypes P trees → (f : FuncTypeDef) → AllByRecursion P (fields_references f.params ++ where_some value_references f.result) → function_tree (trees ++ more) f ≡ function_tree trees f
function_kept P trees more has f a =
    let params = fields_references f.params in
    let result = where_some value_references f.result in
    ap (λ ps. with_parts f.async_ ps (option_map (λ t. value_tree (trees ++ more) t) f.result))
    (each_kept P (λ p. value_references p.ty) (the_param (trees ++ more)) (the_param trees) (param_kept P trees more has) f.params (all_left P params result a))
    ∙ ap (λ r. with_parts f.async_ (map (the_param trees) f.params) r) (result_kept P trees more has f.result (all_right P params result a))

type_kept : (P : Reference → Type 0) (trees more : List TypeTree) (resource : Resource) → HasTypes P trees → (t : TypeDef) → AllByRecursion P (type_references t) → type_tree (trees ++ more) resource t ≡ type_tree trees resource t
type_kept P trees more resource has (types.Func f) a = ap OfFunctions (function_kept P trees more has f a)
type_kept P trees more resource has (types.Resource destructor) a = refl
type_kept P trees more resource has (types.Defined t) a = ap OfValues (defined_kept P trees more has t a)

pub trees_are_kept : TreesAreKept
trees_are_kept scope outer trees more resource t e a = type_kept (InScope (scope ∷ outer)) trees more resource (λ index p. subst (λ n. index < n) e p) t a
