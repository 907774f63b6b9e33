-- What is offered, and the types of imports that it matches.
use Rattle.std.proofs.Common.{◌≡◌, ◌∙◌, Bool, true, false, ◌&&◌, List, [], ◌∷◌, refl, sym, ap, true≢false, rules}
use Rattle.std.specs.Cmp.Lexicographic.{pointwise}
use Rattle.core_types.specs.contracts.types.FuncTypePartialEq.TheImpl as same_function
use Rattle.core_types.specs.contracts.types.ValTypePartialEq.TheImpl as same_value
use Rattle.core_types.specs.declared.types.FuncType.{FuncType}
use Rattle.core_types.specs.declared.types.GlobalType.{GlobalType}
use Rattle.core_types.specs.declared.types.ValType.{ValType}
use Rattle.comp_roles.specs.Matching.{kind_of, matches}
use Rattle.comp_roles.specs.declared.offered.ExternType.{ExternType}
use Rattle.comp_roles.specs.declared.offered.ExternType.TheVariants as externs

pub both : (a b : Bool) → (a && b) ≡ true → (a ≡ true) × (b ≡ true)
both true b e = (refl, e)
both false b e = absurd (true≢false (sym e))

-- ---- types of functions

one_value : (x y : ValType) → same_value.eq-value.it x y ≡ true → x ≡ y
one_value x y e = search rules

value_itself : (x : ValType) → same_value.eq-value.it x x ≡ true
value_itself x = search rules

one_list : (xs ys : List ValType) → pointwise same_value.eq-value.it xs ys ≡ true → xs ≡ ys
one_list [] [] e = refl
one_list (x ∷ xs) (y ∷ ys) e =
    let b = both (same_value.eq-value.it x y) (pointwise same_value.eq-value.it xs ys) e in
    ap (λ z. z ∷ xs) (one_value x y b.0) ∙ ap (λ zs. y ∷ zs) (one_list xs ys b.1)
one_list [] (y ∷ ys) e = absurd (true≢false (sym e))
one_list (x ∷ xs) [] e = absurd (true≢false (sym e))

list_itself : (xs : List ValType) → pointwise same_value.eq-value.it xs xs ≡ true
list_itself [] = refl
list_itself (x ∷ xs) = ap (λ b. b && pointwise same_value.eq-value.it xs xs) (value_itself x) ∙ list_itself xs

pub one_function : (f g : FuncType) → same_function.eq-value.it f g ≡ true → f ≡ g
one_function f g e =
    let build : List ValType → List ValType → FuncType = λ a b. record { params = a; results = b } in
    let b = both (pointwise same_value.eq-value.it f.params g.params) (pointwise same_value.eq-value.it f.results g.results) e in
    ap (λ z. build z f.results) (one_list f.params g.params b.0) ∙ ap (λ z. build g.params z) (one_list f.results g.results b.1)

pub function_itself : (f : FuncType) → same_function.eq-value.it f f ≡ true
function_itself f = ap (λ b. b && pointwise same_value.eq-value.it f.results f.results) (list_itself f.params) ∙ list_itself f.results

-- ---- imports

-- a function is given for an import of its own type alone
pub matched_function : (required : ExternType) (f : FuncType) → matches required (externs.Func f) ≡ true → required ≡ externs.Func f
matched_function (externs.Func g) f e = ap externs.Func (one_function g f e)
matched_function (externs.Table t) f e = absurd (true≢false (sym e))
matched_function (externs.Memory m) f e = absurd (true≢false (sym e))
matched_function (externs.Global g) f e = absurd (true≢false (sym e))

-- a global is given for an import of its own type alone, so that both hold values of one type
pub matched_value : (g h : GlobalType) → matches (externs.Global g) (externs.Global h) ≡ true → g.val_type ≡ h.val_type
matched_value g h e = search rules

-- what is given is of the kind of the import
pub matched_kind : (required offered : ExternType) → matches required offered ≡ true → kind_of required ≡ kind_of offered
matched_kind (externs.Func f) (externs.Func g) e = refl
matched_kind (externs.Table t) (externs.Table u) e = refl
matched_kind (externs.Memory m) (externs.Memory n) e = refl
matched_kind (externs.Global g) (externs.Global h) e = refl
matched_kind required offered e = absurd (true≢false (sym e))
