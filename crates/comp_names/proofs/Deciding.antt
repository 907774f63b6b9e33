-- The result of a test of a conjunction, and of one part after the other.
use Rattle.std.proofs.Common.{◌≡◌, Bool, true, false, sym, ◌∙◌, true≢false}
use Rattle.std.specs.Prelude.{◌↔◌, IsTrue, ◌⊎◌, Result, Ok, Err, IfOk}
use Rattle.std.proofs.Common.{inl, inr}

pub both : {P A B : Type 0} {a b : Bool} → P ↔ (A × B) → a ≡ true → IsTrue a ↔ A → IsTrue b ↔ B → IsTrue b ↔ P
both is t first second = (λ h. is.1 (first.0 t, second.0 h), λ p. second.1 (is.0 p).1)

pub first_fails : {P A B : Type 0} {a : Bool} → P ↔ (A × B) → a ≡ false → IsTrue a ↔ A → IsTrue a ↔ P
first_fails is f first = (λ h. absurd (true≢false (sym h ∙ f)), λ p. first.1 (is.0 p).0)

pub denied : {P A B : Type 0} {a : Bool} → P ↔ (A × B) → a ≡ false → IsTrue a ↔ A → IsTrue false ↔ P
denied is f first = (λ h. absurd (true≢false (sym h)), λ p. absurd (true≢false (sym (first.1 (is.0 p).0) ∙ f)))

pub continues : {P Q A B : Type 0} {a : Bool} → P ↔ Q → Q ↔ (A × B) → a ≡ true → IsTrue a ↔ A → P ↔ B
continues same is t first = (λ p. (is.0 (same.0 p)).1, λ b. same.1 (is.1 (first.0 t, b)))

pub same : {P A : Type 0} {a : Bool} → P ↔ A → IsTrue a ↔ A → IsTrue a ↔ P
same is test = (λ h. is.1 (test.0 h), λ p. test.1 (is.0 p))

pub nowhere : {P : Type 0} → (P → ⊥) → IsTrue false ↔ P
nowhere none = (λ h. absurd (true≢false (sym h)), λ p. absurd (none p))

pub tests : {a b : Bool} → a ≡ b → IsTrue a ↔ IsTrue b
tests e = (λ h. sym e ∙ h, λ h. e ∙ h)

pub ok_both : {E P A B : Type 0} {a : Bool} (r : Result Bool E) → P ↔ (A × B) → a ≡ true → IsTrue a ↔ A → IfOk r (λ b. IsTrue b ↔ B) → IfOk r (λ b. IsTrue b ↔ P)
ok_both (Ok b) is t first second = both is t first second
ok_both (Err e) is t first second = tt

-- the last of three alternatives, where the others fail
pub ok_last : {E P Q : Type 0} (R : Type 0) {a b : Bool} (r : Result Bool E) → a ≡ false → IsTrue a ↔ P → b ≡ false → IsTrue b ↔ Q → IfOk r (λ c. IsTrue c ↔ R) → IfOk r (λ c. IsTrue c ↔ (P ⊎ (Q ⊎ R)))
ok_last R (Ok c) f p g q h = (
  λ t. inr (inr (h.0 t)),
  λ any. elim any [
    | inl x ↦ absurd (true≢false (sym (p.1 x) ∙ f))
    | inr y ↦ elim y [ inl x ↦ absurd (true≢false (sym (q.1 x) ∙ g)) | inr x ↦ h.1 x ]
  ],
)
ok_last R (Err e) f p g q h = tt
