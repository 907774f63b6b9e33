-- Numbers in decimal.
use Rattle.std.proofs.Common.{◌≡◌, ◌≢◌, ℕ, ◌<◌, ◌^◌, ◌&&◌, List, Bool, true, false, Some, None, Result, Ok, Err, refl, sym, ap, subst, ◌∙◌, true≢false, arith}
use Rattle.std.specs.Prelude.{nat_lt, if◌then◌else◌}
use Rattle.std.specs.Fmt.{decimal}
use Rattle.std.specs.Str.{bytes_eq}
use Rattle.std.specs.Str.Parse.{digits_value, ParsesUnsigned}
use Rattle.std.proofs.lemmas.Bool.{lt-ltb, ltb-true}
use Rattle.std.proofs.lemmas.Fmt.{decimal_is_IsNumeral, parse-decimal}
use Rattle.std.proofs.lemmas.Slice.Eq.{bytes_eq-Decides}
use Rattle.name_parts.specs.Texts.{number}

read_back : (text : List ℕ) (d : ℕ) → text ≡ decimal d → d < 2 ^ 32 → digits_value 10 text ≡ d
read_back text d e lt = ap (λ t. digits_value 10 t) e ∙ (decimal_is_IsNumeral d (omega arith)).1

pub is_number : (text : List ℕ) (d : ℕ) → text ≡ decimal d → d < 2 ^ 32 → number text ≡ Some d
unfolding number
is_number text d e lt = rw (read_back text d e lt, (bytes_eq-Decides (decimal d) text).1 (sym e), lt-ltb d (2 ^ 32) lt) refl

pub is_no_number : (text : List ℕ) → ((d : ℕ) → d < 2 ^ 32 → text ≢ decimal d) → number text ≡ None
unfolding number
is_no_number text h = by (bytes_eq (decimal (digits_value 10 text)) text) refl (nat_lt (digits_value 10 text) (2 ^ 32)) refl
  where
    by : (b : Bool) → bytes_eq (decimal (digits_value 10 text)) text ≡ b → (c : Bool) → nat_lt (digits_value 10 text) (2 ^ 32) ≡ c
        → (if b && c then Some (digits_value 10 text) else None) ≡ None
    by true p true q = absurd (h (digits_value 10 text) (ltb-true (digits_value 10 text) (2 ^ 32) q) (sym ((bytes_eq-Decides (decimal (digits_value 10 text)) text).0 p)))
    by true p false q = refl
    by false p c q = refl

abbrev is_err : {T E : Type 0} → Result T E → Type 0
is_err (Ok x) = ⊥
is_err (Err e) = Unit {0}

abbrev value_of : {E : Type 0} → Result ℕ E → ℕ
value_of (Ok x) = x
value_of (Err e) = 0

one_ok : {E : Type 0} (r : Result ℕ E) (v d : ℕ) → r ≡ Ok v → r ≡ Ok d → v ≡ d
one_ok r v d a b = ap value_of (sym a ∙ b)

no_ok : {E : Type 0} (r : Result ℕ E) (e : E) (d : ℕ) → r ≡ Err e → r ≡ Ok d → ⊥
no_ok r e d a b = subst is_err (sym a ∙ b) tt

-- a text that `parse` refuses
pub refused_number : {E : Type 0} (text : List ℕ) (e : E) (r : Result ℕ E) → r ≡ Err e → ParsesUnsigned 32 10 text r → None ≡ number text
refused_number text e r was h = sym (is_no_number text (λ d lt same. no_ok r e d was (parse-decimal 32 d text r lt (omega arith) same h)))

-- a text that `parse` reads as a number which is written otherwise
pub other_number : {E : Type 0} (text digits : List ℕ) (value : ℕ) (r : Result ℕ E) → r ≡ Ok value → ParsesUnsigned 32 10 text r → digits ≡ decimal value → bytes_eq digits text ≡ false
    → None ≡ number text
other_number text digits value r was h written differs =
    sym (is_no_number text (λ d lt same. true≢false (sym ((bytes_eq-Decides digits text).1
    (written ∙ ap decimal (one_ok r value d was (parse-decimal 32 d text r lt (omega arith) same h)) ∙ sym same)) ∙ differs)))

below : {E : Type 0} (text : List ℕ) (value : ℕ) (r : Result ℕ E) → r ≡ Ok value → ParsesUnsigned 32 10 text r → value < 2 ^ 32
below text value r was h =
    let at = subst (λ x. ParsesUnsigned 32 10 text x) was h in
    omega (arith, at.0.1, at.1)

-- a text that `parse` reads as a number which is written so
pub same_number : {E : Type 0} (text digits : List ℕ) (value : ℕ) (r : Result ℕ E) → r ≡ Ok value → ParsesUnsigned 32 10 text r → digits ≡ decimal value → bytes_eq digits text ≡ true
    → Some value ≡ number text
same_number text digits value r was h written same = sym (is_number text value (sym ((bytes_eq-Decides digits text).0 same) ∙ written) (below text value r was h))
