-- Keys of the tables that are equal are one.
use Rattle.std.proofs.Common.{◌≡◌, Bool, true, false, ℕ, List, [], ◌∷◌, Option, Some, None, refl, sym, ap, ◌∙◌, true≢false, rules, ◌&&◌}
use Rattle.std.specs.Str.{bytes_eq}
use Rattle.std.specs.Option.{option_eq}
use Rattle.std.specs.Cmp.Lexicographic.{pointwise}
use Rattle.std.specs.Cmp.{booleans_Decides}
use Rattle.std.specs.Bool.{beq}
use Rattle.std.proofs.lemmas.Slice.Eq.{bytes_eq-Decides}
use Rattle.wit_data.specs.declared.types.Type.{«Type» as Ty}
use Rattle.wit_data.specs.declared.types.Field.{Field}
use Rattle.wit_data.specs.declared.types.Case.{Case}
use Rattle.wit_data.specs.declared.types.ResultType.{ResultType}
use Rattle.wit_data.specs.declared.types.TypeDefKind.TheVariants as kinds
use Rattle.wit_data.specs.contracts.ids.TypeIdPartialEq.TheImpl as id_eq
use Rattle.wit_data.specs.contracts.types.TypePartialEq.TheImpl as type_eq
use Rattle.wit_data.specs.contracts.types.FieldPartialEq.TheImpl as field_eq
use Rattle.wit_data.specs.contracts.types.CasePartialEq.TheImpl as case_eq
use Rattle.wit_data.specs.contracts.types.ResultTypePartialEq.TheImpl as result_eq
use Rattle.wit_data.specs.contracts.types.TypeDefKindPartialEq.TheImpl as kind_eq
use Rattle.wit_types.specs.declared.maps.FuncTypeKey.{FuncTypeKey}
use Rattle.wit_types.specs.contracts.maps.FuncTypeKeyPartialEq.TheImpl as key_eq

-- what is equal is one
abbrev pub IsOne : {X : Type 0} → (X → X → Bool) → Type 0
IsOne {X} eq = (x y : X) → eq x y ≡ true → x ≡ y

both : (a b : Bool) → (a && b) ≡ true → (a ≡ true) × (b ≡ true)
both true b e = (refl, e)
both false b e = absurd (true≢false (sym e))

one_text : IsOne bytes_eq
one_text x y e = (bytes_eq-Decides x y).0 e

one_truth : IsOne beq
one_truth x y e = (booleans_Decides x y).0 e

one_list : {X : Type 0} (eq : X → X → Bool) → IsOne eq → IsOne (pointwise eq)
one_list eq one [] [] e = refl
one_list eq one (x ∷ xs) (y ∷ ys) e =
    let b = both (eq x y) (pointwise eq xs ys) e in
    ap (λ z. z ∷ xs) (one x y b.0) ∙ ap (λ zs. y ∷ zs) (one_list eq one xs ys b.1)
one_list eq one [] (y ∷ ys) e = absurd (true≢false (sym e))
one_list eq one (x ∷ xs) [] e = absurd (true≢false (sym e))

one_option : {X : Type 0} (eq : X → X → Bool) → IsOne eq → IsOne (option_eq eq)
one_option eq one None None e = refl
one_option eq one (Some x) (Some y) e = ap Some (one x y e)
one_option eq one None (Some y) e = absurd (true≢false (sym e))
one_option eq one (Some x) None e = absurd (true≢false (sym e))

pub one_id : IsOne id_eq.eq-value.it
one_id x y e = search rules

one_type : IsOne type_eq.eq-value.it
one_type x y e = search rules

field_by : (x y : Field) → x.name ≡ y.name → x.ty ≡ y.ty → x ≡ y
field_by x y n t =
    let build : List ℕ → Ty → Field = λ a b. record { name = a; ty = b } in
    ap (λ z. build z x.ty) n ∙ ap (λ z. build y.name z) t

one_field : IsOne field_eq.eq-value.it
one_field x y e =
    let b = both (bytes_eq x.name y.name) (type_eq.eq-value.it x.ty y.ty) e in
    field_by x y (one_text x.name y.name b.0) (one_type x.ty y.ty b.1)

case_by : (x y : Case) → x.name ≡ y.name → x.ty ≡ y.ty → x ≡ y
case_by x y n t =
    let build : List ℕ → Option Ty → Case = λ a b. record { name = a; ty = b } in
    ap (λ z. build z x.ty) n ∙ ap (λ z. build y.name z) t

one_case : IsOne case_eq.eq-value.it
one_case x y e =
    let b = both (bytes_eq x.name y.name) (option_eq type_eq.eq-value.it x.ty y.ty) e in
    case_by x y (one_text x.name y.name b.0) (one_option type_eq.eq-value.it one_type x.ty y.ty b.1)

result_by : (x y : ResultType) → x.ok ≡ y.ok → x.err ≡ y.err → x ≡ y
result_by x y o r =
    let build : Option Ty → Option Ty → ResultType = λ a b. record { ok = a; err = b } in
    ap (λ z. build z x.err) o ∙ ap (λ z. build y.ok z) r

one_result : IsOne result_eq.eq-value.it
one_result x y e =
    let b = both (option_eq type_eq.eq-value.it x.ok y.ok) (option_eq type_eq.eq-value.it x.err y.err) e in
    result_by x y (one_option type_eq.eq-value.it one_type x.ok y.ok b.0) (one_option type_eq.eq-value.it one_type x.err y.err b.1)

pub one_kind : IsOne kind_eq.eq-value.it
one_kind (kinds.Record a) (kinds.Record b) e = ap kinds.Record (one_list field_eq.eq-value.it one_field a b e)
one_kind (kinds.Variant a) (kinds.Variant b) e = ap kinds.Variant (one_list case_eq.eq-value.it one_case a b e)
one_kind (kinds.Enum a) (kinds.Enum b) e = ap kinds.Enum (one_list bytes_eq one_text a b e)
one_kind (kinds.Flags a) (kinds.Flags b) e = ap kinds.Flags (one_list bytes_eq one_text a b e)
one_kind (kinds.Tuple a) (kinds.Tuple b) e = ap kinds.Tuple (one_list type_eq.eq-value.it one_type a b e)
one_kind (kinds.«Option» a) (kinds.«Option» b) e = ap kinds.«Option» (one_type a b e)
one_kind (kinds.«Result» a) (kinds.«Result» b) e = ap kinds.«Result» (one_result a b e)
one_kind (kinds.«List» a) (kinds.«List» b) e = ap kinds.«List» (one_type a b e)
one_kind (kinds.Own a) (kinds.Own b) e = ap kinds.Own (one_id a b e)
one_kind (kinds.Borrow a) (kinds.Borrow b) e = ap kinds.Borrow (one_id a b e)
one_kind kinds.Resource kinds.Resource e = refl
one_kind (kinds.Stream a) (kinds.Stream b) e = ap kinds.Stream (one_option type_eq.eq-value.it one_type a b e)
one_kind (kinds.Future a) (kinds.Future b) e = ap kinds.Future (one_option type_eq.eq-value.it one_type a b e)
one_kind (kinds.Alias a) (kinds.Alias b) e = ap kinds.Alias (one_type a b e)
one_kind x y e = absurd (true≢false (sym e))

key_by : (x y : FuncTypeKey) → x.params ≡ y.params → x.result ≡ y.result → x.is_async ≡ y.is_async → x ≡ y
key_by x y p r a =
    let build : List Field → Option Ty → Bool → FuncTypeKey = λ s t u. record { params = s; result = t; is_async = u } in
    ap (λ z. build z x.result x.is_async) p ∙ ap (λ z. build y.params z x.is_async) r ∙ ap (λ z. build y.params y.result z) a

pub one_key : IsOne key_eq.eq-value.it
one_key x y e =
    let b = both (pointwise field_eq.eq-value.it x.params y.params) (option_eq type_eq.eq-value.it x.result y.result && beq x.is_async y.is_async) e in
    let c = both (option_eq type_eq.eq-value.it x.result y.result) (beq x.is_async y.is_async) b.1 in
    key_by x y (one_list field_eq.eq-value.it one_field x.params y.params b.0) (one_option type_eq.eq-value.it one_type x.result y.result c.0) (one_truth x.is_async y.is_async c.1)
