-- Types that are equal are one.
use Rattle.std.proofs.Common.{◌≡◌, Bool, true, false, ◌&&◌, List, [], ◌∷◌, refl, sym, ap, ◌∙◌, true≢false, rules}
use Rattle.std.specs.Cmp.Lexicographic.{pointwise}
use Rattle.core_types.specs.declared.types.ValType.{ValType}
use Rattle.core_types.specs.declared.types.FuncType.{FuncType}
use Rattle.core_types.specs.contracts.types.ValTypePartialEq.TheImpl as same_value
use Rattle.interned_types.specs.Interning.{is_type}

both : (a b : Bool) → (a && b) ≡ true → (a ≡ true) × (b ≡ true)
both true b e = (refl, e)
both false b e = absurd (true≢false (sym e))

one_value : (x y : ValType) → same_value.eq-value.it x y ≡ true → x ≡ y
one_value x y e = search rules

one_list : (xs ys : List ValType) → pointwise same_value.eq-value.it xs ys ≡ true → xs ≡ ys
one_list [] [] e = refl
one_list (x ∷ xs) (y ∷ ys) e =
    let b = both (same_value.eq-value.it x y) (pointwise same_value.eq-value.it xs ys) e in
    ap (λ z. z ∷ xs) (one_value x y b.0) ∙ ap (λ zs. y ∷ zs) (one_list xs ys b.1)
one_list [] (y ∷ ys) e = absurd (true≢false (sym e))
one_list (x ∷ xs) [] e = absurd (true≢false (sym e))

type_by : (x y : FuncType) → x.params ≡ y.params → x.results ≡ y.results → x ≡ y
type_by x y p r =
    let build : List ValType → List ValType → FuncType = λ a b. record { params = a; results = b } in
    ap (λ z. build z x.results) p ∙ ap (λ z. build y.params z) r

pub one_type : (x y : FuncType) → is_type x y ≡ true → x ≡ y
one_type x y e =
    let b = both (pointwise same_value.eq-value.it x.params y.params) (pointwise same_value.eq-value.it x.results y.results) e in
    type_by x y (one_list x.params y.params b.0) (one_list x.results y.results b.1)
