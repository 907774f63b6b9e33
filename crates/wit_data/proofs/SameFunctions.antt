-- Functions that are equal are one.
use Rattle.std.proofs.Common.{◌≡◌, Bool, true, false, ℕ, List, [], ◌∷◌, Option, Some, None, refl, sym, ap, ◌∙◌, true≢false, rules, ◌&&◌}
use Rattle.std.specs.Str.{bytes_eq}
use Rattle.std.specs.Option.{option_eq}
use Rattle.std.specs.Cmp.Lexicographic.{pointwise}
use Rattle.std.proofs.lemmas.Slice.Eq.{bytes_eq-Decides}
use Rattle.wit_data.specs.declared.functions.Function.{Function}
use Rattle.wit_data.specs.declared.functions.FunctionKind.{FunctionKind}
use Rattle.wit_data.specs.declared.functions.FunctionKind.TheVariants as kinds
use Rattle.wit_data.specs.declared.functions.Param.{Param}
use Rattle.wit_data.specs.declared.types.Type.{«Type» as Ty}
use Rattle.wit_data.specs.contracts.functions.FunctionPartialEq.TheImpl as function_eq
use Rattle.wit_data.specs.contracts.functions.FunctionKindPartialEq.TheImpl as kind_eq
use Rattle.wit_data.specs.contracts.functions.ParamPartialEq.TheImpl as param_eq
use Rattle.wit_data.specs.contracts.ids.TypeIdPartialEq.TheImpl as id_eq
use Rattle.wit_data.specs.contracts.types.TypePartialEq.TheImpl as type_eq

-- what is equal is one
abbrev IsOne : {X : Type 0} → (X → X → Bool) → Type 0
IsOne {X} eq = (x y : X) → eq x y ≡ true → x ≡ y

both : (a b : Bool) → (a && b) ≡ true → (a ≡ true) × (b ≡ true)
both true b e = (refl, e)
both false b e = absurd (true≢false (sym e))

one_text : IsOne bytes_eq
one_text x y e = (bytes_eq-Decides x y).0 e

one_list : {X : Type 0} (eq : X → X → Bool) → IsOne eq → IsOne (pointwise eq)
one_list eq one [] [] e = refl
one_list eq one (x ∷ xs) (y ∷ ys) e =
    let b = both (eq x y) (pointwise eq xs ys) e in
    ap (λ z. z ∷ xs) (one x y b.0) ∙ ap (λ zs. y ∷ zs) (one_list eq one xs ys b.1)
one_list eq one [] (y ∷ ys) e = absurd (true≢false (sym e))
one_list eq one (x ∷ xs) [] e = absurd (true≢false (sym e))

one_option : {X : Type 0} (eq : X → X → Bool) → IsOne eq → IsOne (option_eq eq)
one_option eq one None None e = refl
one_option eq one (Some x) (Some y) e = ap Some (one x y e)
one_option eq one None (Some y) e = absurd (true≢false (sym e))
one_option eq one (Some x) None e = absurd (true≢false (sym e))

one_id : IsOne id_eq.eq-value.it
one_id x y e = search rules

one_type : IsOne type_eq.eq-value.it
one_type x y e = search rules

one_kind : IsOne kind_eq.eq-value.it
one_kind kinds.Freestanding kinds.Freestanding e = refl
one_kind kinds.AsyncFreestanding kinds.AsyncFreestanding e = refl
one_kind (kinds.Method a) (kinds.Method b) e = ap kinds.Method (one_id a b e)
one_kind (kinds.AsyncMethod a) (kinds.AsyncMethod b) e = ap kinds.AsyncMethod (one_id a b e)
one_kind (kinds.Static a) (kinds.Static b) e = ap kinds.Static (one_id a b e)
one_kind (kinds.AsyncStatic a) (kinds.AsyncStatic b) e = ap kinds.AsyncStatic (one_id a b e)
one_kind (kinds.Constructor a) (kinds.Constructor b) e = ap kinds.Constructor (one_id a b e)
one_kind x y e = absurd (true≢false (sym e))

param_by : (x y : Param) → x.name ≡ y.name → x.ty ≡ y.ty → x ≡ y
param_by x y n t =
    let build : List ℕ → Ty → Param = λ a b. record { name = a; ty = b } in
    ap (λ z. build z x.ty) n ∙ ap (λ z. build y.name z) t

one_param : IsOne param_eq.eq-value.it
one_param x y e =
    let b = both (bytes_eq x.name y.name) (type_eq.eq-value.it x.ty y.ty) e in
    param_by x y (one_text x.name y.name b.0) (one_type x.ty y.ty b.1)

function_by : (x y : Function) → x.name ≡ y.name → x.kind ≡ y.kind → x.params ≡ y.params → x.result ≡ y.result → x ≡ y
function_by x y n k p r =
    let build : List ℕ → FunctionKind → List Param → Option Ty → Function = λ a b c d. record { name = a; kind = b; params = c; result = d } in
    ap (λ z. build z x.kind x.params x.result) n ∙ ap (λ z. build y.name z x.params x.result) k ∙ ap (λ z. build y.name y.kind z x.result) p ∙ ap (λ z. build y.name y.kind y.params z) r

pub one_function : (x y : Function) → function_eq.eq-value.it x y ≡ true → x ≡ y
one_function x y e =
    let b = both (bytes_eq x.name y.name) (kind_eq.eq-value.it x.kind y.kind && (pointwise param_eq.eq-value.it x.params y.params && option_eq type_eq.eq-value.it x.result y.result)) e in
    let c = both (kind_eq.eq-value.it x.kind y.kind) (pointwise param_eq.eq-value.it x.params y.params && option_eq type_eq.eq-value.it x.result y.result) b.1 in
    let d = both (pointwise param_eq.eq-value.it x.params y.params) (option_eq type_eq.eq-value.it x.result y.result) c.1 in
    function_by x y (one_text x.name y.name b.0) (one_kind x.kind y.kind c.0) (one_list param_eq.eq-value.it one_param x.params y.params d.0) (one_option type_eq.eq-value.it one_type x.result y.result d.1)
