-- Writing one value after another, as loops do: what is written, and what is still to be written, is the whole.
use Rattle.std.proofs.Common.{◌≡◌, ℕ, zero, suc, ◌<◌, ◌≤◌, ◌+◌, List, [], ◌∷◌, ◌++◌, length, map, drop, drop-cons, get_or, add-one, Result, Ok, Err, refl, sym, ap, subst, ◌∙◌, append_assoc, arith}
use Rattle.std.specs.List.{AllByRecursion}
use Rattle.std.proofs.lemmas.List.{append-nil}
use Rattle.std.proofs.lemmas.List.Concat.{flat_map-cons}
use Rattle.byte_encoding.specs.Encoding.{Encoding, Fits, ◌⊕◌, raw, each}
use Rattle.byte_encoding.specs.Written.{Writes, Refused}
use Rattle.byte_encoding.specs.declared.fault.BuildFault.{BuildFault}
use Rattle.byte_encoding.proofs.Pieces.{fits_append, refused_left, refused_right}

pub record Remains (old new : List ℕ) (rest all : Encoding) : Type 0 where
  pub bytes : new ++ rest.bytes ≡ old ++ all.bytes
  pub fits : Fits rest.counts → Fits all.counts
  pub refused : (e : BuildFault) → Refused rest.counts e → Refused all.counts e

pub all_remains : (old : List ℕ) (all : Encoding) → Remains old old all all
all_remains old all = record { bytes = refl; fits = λ f. f; refused = λ e r. r }

-- a piece of the rest was written
pub one_written : (old mid new : List ℕ) (piece rest all : Encoding) → Remains old mid (piece ⊕ rest) all → new ≡ mid ++ piece.bytes → Fits piece.counts → Remains old new rest all
one_written old mid new piece rest all r e f = record {
  bytes = ap (λ m. m ++ rest.bytes) e ∙ append_assoc mid piece.bytes rest.bytes ∙ r.bytes;
  fits = λ g. r.fits (fits_append piece.counts rest.counts f g);
  refused = λ d q. r.refused d (refused_right d piece.counts rest.counts q);
}

-- a piece of the rest was refused
pub one_refused : (old mid new : List ℕ) (piece rest all : Encoding) (e : BuildFault) → Remains old mid (piece ⊕ rest) all → Refused piece.counts e → Refused all.counts e
one_refused old mid new piece rest all e r q = r.refused e (refused_left e piece.counts rest.counts q)

-- nothing is left
pub all_written : (old new : List ℕ) (all : Encoding) → Remains old new (raw []) all → (new ≡ old ++ all.bytes) × Fits all.counts
all_written old new all r = (sym (append-nil new) ∙ r.bytes, r.fits tt)

each_cons : {A : Type 0} (f : A → Encoding) (x : A) (xs : List A) → each f (x ∷ xs) ≡ f x ⊕ each f xs
each_cons f x xs = rw (flat_map-cons (λ y. (f y).bytes) x xs, flat_map-cons (λ y. (f y).counts) x xs) refl

-- the next of several pieces was written
pub next_written : {A : Type 0} (f : A → Encoding) (old mid new : List ℕ) (x : A) (rest xs : List A) (all : Encoding) → rest ≡ x ∷ xs → Remains old mid (each f rest) all
    → new ≡ mid ++ (f x).bytes → Fits (f x).counts → Remains old new (each f xs) all
next_written f old mid new x rest xs all e r written fits =
    one_written old mid new (f x) (each f xs) all (subst (λ (s : Encoding). Remains old mid s all) (ap (each f) e ∙ each_cons f x xs) r) written fits

-- the next of several pieces was refused
pub next_refused : {A : Type 0} (f : A → Encoding) (old mid : List ℕ) (x : A) (rest xs : List A) (all : Encoding) (e : BuildFault) → rest ≡ x ∷ xs → Remains old mid (each f rest) all
    → Refused (f x).counts e → Refused all.counts e
next_refused f old mid x rest xs all e q r refused =
    one_refused old mid mid (f x) (each f xs) all e (subst (λ (s : Encoding). Remains old mid s all) (ap (each f) q ∙ each_cons f x xs) r) refused

-- no pieces are left
pub none_left : {A : Type 0} (f : A → Encoding) (old new : List ℕ) (rest : List A) (all : Encoding) → rest ≡ [] → Remains old new (each f rest) all → (new ≡ old ++ all.bytes) × Fits all.counts
none_left {A = A} f old new rest all e r = all_written old new all (subst (λ (xs : List A). Remains old new (each f xs) all) e r)

-- ---- what is left of a list, seen by view

pub next_of : {A B : Type 0} (view : A → B) (xs : List A) (k : ℕ) (x : A) → k < length xs → x ≡ get_or xs k x → map view (drop k xs) ≡ view x ∷ map view (drop (k + 1) xs)
next_of view xs k x lt e =
    let next : drop (k + 1) xs ≡ drop (suc k) xs = rw add-one refl in
    ap (map view) (drop-cons xs k x lt) ∙ ap (λ y. view y ∷ map view (drop (suc k) xs)) (sym e) ∙ ap (λ ys. view x ∷ map view ys) (sym next)

pub none_of : {A B : Type 0} (view : A → B) (xs : List A) (k : ℕ) → length xs ≤ k → map view (drop k xs) ≡ []
none_of view [] zero le = refl
none_of view [] (suc k) le = refl
none_of view (x ∷ xs) zero le = absurd (omega (arith, le))
none_of view (x ∷ xs) (suc k) le = none_of view xs k (omega (arith, le))

pub next_at : {A B : Type 0} (view : A → B) (xs : List A) (k : ℕ) (d : A) → k < length xs → map view (drop k xs) ≡ view (get_or xs k d) ∷ map view (drop (k + 1) xs)
next_at view xs k d lt = let next : drop (k + 1) xs ≡ drop (suc k) xs = rw add-one refl in ap (map view) (drop-cons xs k d lt) ∙ ap (λ ys. view (get_or xs k d) ∷ map view ys) (sym next)

-- the next of several items, seen by view, was written
pub section_written : {A B : Type 0} (view : A → B) (f : B → Encoding) (xs : List A) (k : ℕ) (d : A) (old mid new : List ℕ) (all : Encoding) → k < length xs → Remains old mid (each f (map view (drop k xs))) all
    → (new ≡ mid ++ (f (view (get_or xs k d))).bytes) × Fits (f (view (get_or xs k d))).counts → Remains old new (each f (map view (drop (k + 1) xs))) all
section_written view f xs k d old mid new all lt r w = next_written f old mid new (view (get_or xs k d)) (map view (drop k xs)) (map view (drop (k + 1) xs)) all (next_at view xs k d lt) r w.0 w.1

-- the next of several items, seen by view, was refused
pub section_refused : {A B : Type 0} (view : A → B) (f : B → Encoding) (xs : List A) (k : ℕ) (d : A) (old mid : List ℕ) (all : Encoding) (e : BuildFault) → k < length xs → Remains old mid (each f (map view (drop k xs))) all → Refused (f (view (get_or xs k d))).counts e
    → Refused all.counts e
section_refused view f xs k d old mid all e lt r w = next_refused f old mid (view (get_or xs k d)) (map view (drop k xs)) (map view (drop (k + 1) xs)) all e (next_at view xs k d lt) r w
