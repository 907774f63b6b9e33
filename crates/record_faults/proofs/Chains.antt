-- Chains of steps that may be refused, and tests that decide between a result and a refusal.
use Rattle.std.proofs.Common.{◌≡◌, ◌⊎◌, inl, inr, Bool, true, false, Option, None, Some, Result, Ok, Err, refl}
use Rattle.std.specs.Prelude.{ok_or, if◌then◌else◌}
use Rattle.std.specs.Cmp.{IsEquivalence}
use Rattle.std.specs.Cmp.Lexicographic.{lists_equiv}
use Rattle.std.specs.Str.{bytes_eq}
use Rattle.std.proofs.lemmas.Cmp.{nat_eq_equiv}
use Rattle.record_faults.specs.declared.fault.Failure.{Failure}
use Rattle.record_faults.specs.declared.fault.Failure.TheVariants as failures
use Rattle.record_faults.specs.declared.fault.Refusal.{Refusal}
use Rattle.record_faults.specs.Faults.{◌>>=◌}

abbrev pub refused : {A : Type 0} → Refusal → Result A Failure
refused r = Err (failures.Refused r)

pub same_refusal : (a b : Refusal) → failures.Refused a ≡ failures.Refused b → a ≡ b
same_refusal a b e = cc

pub bind_ok : {A B : Type 0} (r : Result A Failure) (f : A → Result B Failure) (y : B) → (r >>= f) ≡ Ok y → (x : A) × (r ≡ Ok x) × (f x ≡ Ok y)
bind_ok (Ok x) f y e = (x, refl, e)
bind_ok (Err d) f y e = absurd cc

pub bind_err : {A B : Type 0} (r : Result A Failure) (f : A → Result B Failure) (d : Failure) → (r >>= f) ≡ Err d → (r ≡ Err d) ⊎ ((x : A) × (r ≡ Ok x) × (f x ≡ Err d))
bind_err (Ok x) f d e = inr (x, refl, e)
bind_err (Err c) f d e = inl cc

pub missed : {A : Type 0} (o : Option A) (c d : Failure) → ok_or o c ≡ Err d → (o ≡ None) × (c ≡ d)
missed None c d e = (refl, cc)
missed (Some x) c d e = absurd cc

pub got : {A : Type 0} (o : Option A) (d : Failure) (x : A) → ok_or o d ≡ Ok x → o ≡ Some x
got None d x e = absurd cc
got (Some y) d x e = cc

pub failed : {A : Type 0} (b : Bool) (x : A) (c d : Failure) → (if b then Ok x else Err c) ≡ Err d → (b ≡ false) × (c ≡ d)
failed true x c d e = absurd cc
failed false x c d e = (refl, cc)

pub passed : {A : Type 0} (b : Bool) (x y : A) (d : Failure) → (if b then Ok x else Err d) ≡ Ok y → (b ≡ true) × (x ≡ y)
passed true x y d e = (refl, cc)
passed false x y d e = absurd cc

-- texts are equal where their bytes are
pub equivalence : IsEquivalence bytes_eq
equivalence = lists_equiv nat_eq_equiv
