-- One piece of writing after another.
use Rattle.std.proofs.Common.{◌≡◌, ℕ, zero, suc, ◌<◌, List, [], ◌∷◌, ◌++◌, length, get_or, ap, subst, ◌∙◌, sym, arith, append_assoc, Result, Ok, Err}
use Rattle.std.specs.List.{flat_map}
use Rattle.std.specs.Result.{IsErrAnd}
use Rattle.std.proofs.lemmas.List.Elements.{Contains-append_left, Contains-append_right}
use Rattle.byte_encoding.specs.Encoding.{Encoding, Fits, ◌⊕◌}
use Rattle.byte_encoding.specs.Written.{Writes, Refused}
use Rattle.byte_encoding.specs.declared.fault.BuildFault.{BuildFault}
use Rattle.byte_encoding.specs.declared.fault.BuildFault.TheVariants.{Memory, TooMany}

pub fits_append : (a b : List ℕ) → Fits a → Fits b → Fits (a ++ b)
fits_append [] b p q = q
fits_append (x ∷ a) b p q = (p.0, fits_append a b p.1 q)

pub refused_left : (e : BuildFault) (a b : List ℕ) → Refused a e → Refused (a ++ b) e
refused_left Memory a b r = tt
refused_left (TooMany n) a b r = (r.0, Contains-append_left a b n r.1)

pub refused_right : (e : BuildFault) (a b : List ℕ) → Refused b e → Refused (a ++ b) e
refused_right Memory a b r = tt
refused_right (TooMany n) a b r = (r.0, Contains-append_right a b n r.1)

pub refused_later : (e : BuildFault) (n : ℕ) (b : List ℕ) → Refused b e → Refused (n ∷ b) e
refused_later e n b r = refused_right e (n ∷ []) b r

pub refused_now : (e : BuildFault) (n : ℕ) (b : List ℕ) → Refused (n ∷ []) e → Refused (n ∷ b) e
refused_now e n b r = refused_left e (n ∷ []) b r

-- A second piece after a first.
pub writes_after : (old mid new : List ℕ) (r : Result Unit BuildFault) (a b : Encoding) → mid ≡ old ++ a.bytes → Fits a.counts → Writes mid new r b → Writes old new r (a ⊕ b)
writes_after old mid new (Ok x) a b e f w = (w.0 ∙ (ap (λ m. m ++ b.bytes) e ∙ append_assoc old a.bytes b.bytes), fits_append a.counts b.counts f w.1)
writes_after old mid new (Err d) a b e f w = refused_right d a.counts b.counts w

-- One of several pieces.
pub refused_each : {A : Type 0} (f : A → List ℕ) (xs : List A) (k : ℕ) (d : A) (e : BuildFault) → k < length xs → Refused (f (get_or xs k d)) e → Refused (flat_map f xs) e
refused_each f [] k d e l r = absurd (omega (arith, l))
refused_each f (x ∷ xs) zero d e l r = refused_left e (f x) (flat_map f xs) r
refused_each f (x ∷ xs) (suc k) d e l r = refused_right e (f x) (flat_map f xs) (refused_each f xs k d e (omega (arith, l)) r)

-- A call that gives an error on.
pub exits : (old new : List ℕ) (r : Result Unit BuildFault) (e : BuildFault) (s : Encoding) → IsErrAnd r (λ y. y ≡ e) → Refused s.counts e → Writes old new r s
exits old new (Ok x) e s h f = absurd h
exits old new (Err y) e s h f = subst (λ (d : BuildFault). Refused s.counts d) (sym h) f

pub ruleset writing = (exits, refused_left, refused_right, refused_now, refused_later)
