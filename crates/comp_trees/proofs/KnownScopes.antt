-- A type in which nothing is unknown names types of its scope alone.
use Rattle.std.proofs.Common.{◌≡◌, ◌∙◌, ◌<◌, ℕ, zero, suc, Bool, true, false, true≢false, ◌&&◌, List, [], ◌∷◌, ◌++◌, length, map, get_or, refl, sym, ap, subst, Option, Some, None, is_some, IsSome, arith}
use Rattle.std.proofs.lemmas.Option.{none-some, same_Some}
use Rattle.std.specs.Prelude.{if◌then◌else◌}
use Rattle.std.specs.List.{AllByRecursion, flat_map, list_all}
use Rattle.comp_bytes.specs.References.{Reference, own, type_at, where_some, value_references, fields_references, defined_references}
use Rattle.comp_bytes.specs.declared.space.Space.TheVariants as spaces
use Rattle.comp_bytes.specs.declared.types.Case.{Case}
use Rattle.comp_bytes.specs.declared.types.ComponentValType.{ComponentValType}
use Rattle.comp_bytes.specs.declared.types.ComponentValType.TheVariants as values
use Rattle.comp_bytes.specs.declared.types.DefinedType.{DefinedType}
use Rattle.comp_bytes.specs.declared.types.DefinedType.TheVariants as defined
use Rattle.comp_bytes.specs.declared.types.Field.{Field}
use Rattle.comp_bytes.specs.declared.types.FuncTypeDef.{FuncTypeDef}
use Rattle.comp_trees.specs.Trees.{Tree, ParamTree, is_known, are_known, is_known_function, trees_of}
use Rattle.comp_trees.specs.Operands.{known_tree, operand_in, IsOperand}
use Rattle.comp_trees.specs.DefinedScopes.{Denotes, IsValue}
use Rattle.comp_trees.specs.DefinedTrees.{TypeTree, OfValues, OfFunctions, OfOthers, values_of, tree_at, value_tree, payload_tree, defined_tree, function_tree}

left_of : (b c : Bool) → (b && c) ≡ true → b ≡ true
left_of true c e = refl
left_of false c e = cc

right_of : (b c : Bool) → (b && c) ≡ true → c ≡ true
right_of true c e = e
right_of false c e = cc

join : {X : Type 0} (P : X → Type 0) (xs ys : List X) → AllByRecursion P xs → AllByRecursion P ys → AllByRecursion P (xs ++ ys)
join P [] ys h k = k
join P (x ∷ xs) ys h k = (h.0, join P xs ys h.1 k)

-- an index whose tree is known is in range
pub known_in_range : (scope : List TypeTree) (index : ℕ) → is_known (tree_at scope index) ≡ true → index < length scope
known_in_range [] index e = cc
known_in_range (t ∷ ts) zero e = omega arith
known_in_range (t ∷ ts) (suc n) e = let rest = known_in_range ts n e in omega (arith, rest)

-- what may be an operand is known
pub operand_known : (tree : Tree) → IsSome (known_tree tree) → is_known tree ≡ true
operand_known tree h = by (is_known tree) h
  where
    by : (b : Bool) → IsSome (if b then Some (Some tree) else None) → b ≡ true
    by true h = refl
    by false h = absurd (true≢false (sym h))

-- and the other way round
pub known_operand : (tree : Tree) → is_known tree ≡ true → known_tree tree ≡ Some (Some tree)
known_operand tree h = ap (λ b. if b then Some (Some tree) else None) h

-- an index whose tree is known denotes it
pub known_denotes : (scope : List TypeTree) (index : ℕ) → is_known (tree_at scope index) ≡ true → Denotes scope index (OfValues (tree_at scope index))
known_denotes scope index h = record { within = known_in_range scope index h; tree = by (get_or scope index OfOthers) h }
  where
    by : (t : TypeTree) → is_known (values_of t) ≡ true → t ≡ OfValues (values_of t)
    by (OfValues t) h = refl
    by (OfFunctions f) h = absurd (true≢false (sym h))
    by OfOthers h = absurd (true≢false (sym h))

-- so a value type that is known is what it denotes
pub known_value : (scope : List TypeTree) (v : ComponentValType) → is_known (value_tree scope v) ≡ true → IsValue scope v (value_tree scope v)
known_value scope (values.Primitive p) h = refl
known_value scope (values.Defined index) h = known_denotes scope index h

-- an operand, where it may be one, is what it denotes
pub operand_is : (scope : List TypeTree) (written : Option ComponentValType) (operand : Option Tree) → operand_in scope written ≡ Some operand → IsOperand scope written operand
operand_is scope None None h = tt
operand_is scope None (Some t) h = absurd (none-some t (same_Some None (Some t) h))
operand_is scope (Some v) operand h =
    let known : is_known (value_tree scope v) ≡ true = operand_known (value_tree scope v) (ap is_some h) in
    let same : Some (value_tree scope v) ≡ operand = same_Some (Some (value_tree scope v)) operand (sym (known_operand (value_tree scope v) known) ∙ h) in
    subst (IsOperand scope (Some v)) same (known_value scope v known)

module _ (P : Reference → Type 0) (scope : List TypeTree) (named : (index : ℕ) → index < length scope → P (own spaces.Type index)) where
  at_index : (index : ℕ) → is_known (tree_at scope index) ≡ true → AllByRecursion P (type_at index)
  at_index index e = (named index (known_in_range scope index e), tt)

  of_value : (v : ComponentValType) → is_known (value_tree scope v) ≡ true → AllByRecursion P (value_references v)
  of_value (values.Primitive p) e = tt
  of_value (values.Defined index) e = at_index index e

  of_payload : (v : Option ComponentValType) → is_known (payload_tree scope v) ≡ true → AllByRecursion P (where_some value_references v)
  of_payload None e = tt
  of_payload (Some v) e = of_value v e

  of_fields : (fs : List Field) → are_known (trees_of (map (λ (f : Field). value_tree scope f.ty) fs)) ≡ true → AllByRecursion P (fields_references fs)
  of_fields [] e = tt
  of_fields (f ∷ fs) e =
      let rest = are_known (trees_of (map (λ (f : Field). value_tree scope f.ty) fs)) in
      join P (value_references f.ty) (fields_references fs) (of_value f.ty (left_of (is_known (value_tree scope f.ty)) rest e)) (of_fields fs (right_of (is_known (value_tree scope f.ty)) rest e))

  of_cases : (cs : List Case) → are_known (trees_of (map (λ (c : Case). payload_tree scope c.ty) cs)) ≡ true → AllByRecursion P (flat_map (λ (c : Case). where_some value_references c.ty) cs)
  of_cases [] e = tt
  of_cases (c ∷ cs) e =
      let rest = are_known (trees_of (map (λ (c : Case). payload_tree scope c.ty) cs)) in
      join P (where_some value_references c.ty) (flat_map (λ (c : Case). where_some value_references c.ty) cs) (of_payload c.ty (left_of (is_known (payload_tree scope c.ty)) rest e)) (of_cases cs (right_of (is_known (payload_tree scope c.ty)) rest e))

  of_members : (ts : List ComponentValType) → are_known (trees_of (map (value_tree scope) ts)) ≡ true → AllByRecursion P (flat_map value_references ts)
  of_members [] e = tt
  of_members (t ∷ ts) e =
      let rest = are_known (trees_of (map (value_tree scope) ts)) in
      join P (value_references t) (flat_map value_references ts) (of_value t (left_of (is_known (value_tree scope t)) rest e)) (of_members ts (right_of (is_known (value_tree scope t)) rest e))

  pub known_defined : (t : DefinedType) → is_known (defined_tree scope t) ≡ true → AllByRecursion P (defined_references t)
  known_defined (defined.Primitive p) e = tt
  known_defined (defined.Record fields) e = of_fields fields e
  known_defined (defined.Variant cases) e = of_cases cases e
  known_defined (defined.List t) e = of_value t e
  known_defined (defined.Tuple members) e = of_members members e
  known_defined (defined.Flags names) e = tt
  known_defined (defined.Enum names) e = tt
  known_defined (defined.Option t) e = of_value t e
  known_defined (defined.Result ok err) e =
      join P (where_some value_references ok) (where_some value_references err)
      (of_payload ok (left_of (is_known (payload_tree scope ok)) (is_known (payload_tree scope err)) e))
      (of_payload err (right_of (is_known (payload_tree scope ok)) (is_known (payload_tree scope err)) e))
  known_defined (defined.Own index) e = at_index index e
  known_defined (defined.Borrow index) e = at_index index e
  known_defined (defined.Stream t) e = of_payload t e
  known_defined (defined.Future t) e = of_payload t e

  of_params : (fs : List Field) → list_all (λ (p : ParamTree). is_known p.tree) (map (λ (f : Field). record { name = f.name; tree = value_tree scope f.ty }) fs) ≡ true → AllByRecursion P (fields_references fs)
  of_params [] e = tt
  of_params (f ∷ fs) e =
      let rest = list_all (λ (p : ParamTree). is_known p.tree) (map (λ (f : Field). record { name = f.name; tree = value_tree scope f.ty }) fs) in
      join P (value_references f.ty) (fields_references fs) (of_value f.ty (left_of (is_known (value_tree scope f.ty)) rest e)) (of_params fs (right_of (is_known (value_tree scope f.ty)) rest e))

  of_result : (f : FuncTypeDef) → is_known_function (function_tree scope f) ≡ true → AllByRecursion P (where_some value_references f.result)
  of_result f e = by f.result e
    where
      by : (r : Option ComponentValType) → is_known_function (function_tree scope (record f { result = r })) ≡ true → AllByRecursion P (where_some value_references r)
      by None e = tt
      by (Some v) e = of_value v (right_of (list_all (λ (p : ParamTree). is_known p.tree) (map (λ (f : Field). record { name = f.name; tree = value_tree scope f.ty }) f.params)) (is_known (value_tree scope v)) e)

  pub known_function_names : (f : FuncTypeDef) → is_known_function (function_tree scope f) ≡ true → AllByRecursion P (fields_references f.params ++ where_some value_references f.result)
  known_function_names f e = join P (fields_references f.params) (where_some value_references f.result) (of_params f.params (params_known f e)) (of_result f e)
    where
      params_known : (f : FuncTypeDef) → is_known_function (function_tree scope f) ≡ true → list_all (λ (p : ParamTree). is_known p.tree) (map (λ (f : Field). record { name = f.name; tree = value_tree scope f.ty }) f.params) ≡ true
      params_known f e = left_of (list_all (λ (p : ParamTree). is_known p.tree) (map (λ (f : Field). record { name = f.name; tree = value_tree scope f.ty }) f.params)) _ e
