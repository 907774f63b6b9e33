-- Lists, index by index.
use Rattle.std.proofs.Common.{map, get_or, take, ◌≡◌, ℕ, zero, suc, ◌+◌, ◌<◌, List, [], ◌∷◌, ◌++◌, length, refl, ap, subst, Some, arith}
use Rattle.std.proofs.lemmas.Option.{same_Some, none-some}
use Rattle.std.proofs.lemmas.List.{take_more}
use Rattle.std.specs.List.{slice_get, AllZip, AllByRecursion}
use Rattle.std.specs.Prelude.{Contains, slice_index_or}

pub slice_get-append : {X : Type 0} (xs ys : List X) (i : ℕ) (x : X) → slice_get xs i ≡ Some x → slice_get (xs ++ ys) i ≡ Some x
slice_get-append [] ys i x e = cc
slice_get-append (a ∷ xs) ys zero x e = e
slice_get-append (a ∷ xs) ys (suc i) x e = slice_get-append xs ys i x e

pub slice_get-end : {X : Type 0} (xs : List X) (x : X) → slice_get (xs ++ x ∷ []) (length xs) ≡ Some x
slice_get-end [] x = refl
slice_get-end (a ∷ xs) x = slice_get-end xs x

pub AllZip-weaker : {A B : Type 0} {R S : A → B → Type 0} → ((x : A) (y : B) → R x y → S x y) → (xs : List A) (ys : List B) → AllZip R xs ys → AllZip S xs ys
AllZip-weaker f [] [] h = h
AllZip-weaker f (x ∷ xs) (y ∷ ys) h = (f x y h.0, AllZip-weaker f xs ys h.1)
AllZip-weaker f [] (y ∷ ys) h = h
AllZip-weaker f (x ∷ xs) [] h = h

pub AllZip-end : {A B : Type 0} (R : A → B → Type 0) (xs : List A) (ys : List B) (x : A) (y : B) → AllZip R xs ys → R x y → AllZip R (xs ++ x ∷ []) (ys ++ y ∷ [])
AllZip-end R [] [] x y h k = (k, tt)
AllZip-end R (a ∷ xs) (b ∷ ys) x y h k = (h.0, AllZip-end R xs ys x y h.1 k)
AllZip-end R [] (b ∷ ys) x y h k = absurd h
AllZip-end R (a ∷ xs) [] x y h k = absurd h

pub AllZip-at : {A B : Type 0} (R : A → B → Type 0) (xs : List A) (ys : List B) (i : ℕ) (x : A) → AllZip R xs ys → slice_get xs i ≡ Some x →
    (y : B) × (slice_get ys i ≡ Some y) × R x y
AllZip-at {A} {B} R (a ∷ xs) (b ∷ ys) zero x h e = (b, refl, subst (λ (v : A). R v b) (same_Some a x e) h.0)
AllZip-at R (a ∷ xs) (b ∷ ys) (suc i) x h e = AllZip-at R xs ys i x h.1 e
AllZip-at R [] [] i x h e = absurd (none-some x e)
AllZip-at R [] (b ∷ ys) i x h e = absurd h
AllZip-at R (a ∷ xs) [] i x h e = absurd h

pub length-AllZip : {A B : Type 0} (R : A → B → Type 0) (xs : List A) (ys : List B) → AllZip R xs ys → length xs ≡ length ys
length-AllZip R [] [] h = refl
length-AllZip R (x ∷ xs) (y ∷ ys) h = ap suc (length-AllZip R xs ys h.1)
length-AllZip R [] (y ∷ ys) h = absurd h
length-AllZip R (x ∷ xs) [] h = absurd h

pub AllByRecursion-weaker : {X : Type 0} {P Q : X → Type 0} → ((x : X) → P x → Q x) → (xs : List X) → AllByRecursion P xs → AllByRecursion Q xs
AllByRecursion-weaker f [] h = tt
AllByRecursion-weaker f (x ∷ xs) h = (f x h.0, AllByRecursion-weaker f xs h.1)

pub AllByRecursion-push : {X : Type 0} (P : X → Type 0) (xs : List X) (x : X) → AllByRecursion P xs → P x → AllByRecursion P (xs ++ x ∷ [])
AllByRecursion-push P [] x h k = (k, tt)
AllByRecursion-push P (y ∷ ys) x h k = (h.0, AllByRecursion-push P ys x h.1 k)

pub there : {X : Type 0} (xs : List X) (i : ℕ) → i < length xs → (x : X) × (slice_get xs i ≡ Some x)
there [] i l = absurd (omega arith)
there (x ∷ xs) zero l = (x, refl)
there (x ∷ xs) (suc i) l = there xs i (omega arith)

-- a loop's step: the pushed item fits the item of this iteration
pub AllZip-more : {A B : Type 0} (R : A → B → Type 0) (xs new : List A) (ys : List B) (i : ℕ) (x : A) (y : B) →
    new ≡ xs ++ x ∷ [] → i < length ys → y ≡ get_or ys i y → AllZip R xs (take i ys) → R x y → AllZip R new (take (i + 1) ys)
AllZip-more R xs new ys i x y pushed l is h k =
    rw (pushed, take_more ys i y l, ← is) (AllZip-end R xs (take i ys) x y h k)

pub AllByRecursion-front : {X : Type 0} (P : X → Type 0) (xs ys : List X) → AllByRecursion P (xs ++ ys) → AllByRecursion P xs
AllByRecursion-front P [] ys h = tt
AllByRecursion-front P (x ∷ xs) ys h = (h.0, AllByRecursion-front P xs ys h.1)

pub AllByRecursion-back : {X : Type 0} (P : X → Type 0) (xs ys : List X) → AllByRecursion P (xs ++ ys) → AllByRecursion P ys
AllByRecursion-back P [] ys h = h
AllByRecursion-back P (x ∷ xs) ys h = AllByRecursion-back P xs ys h.1

-- what holds of all items holds of the one at an index
pub AllByRecursion-at : {X : Type 0} (P : X → Type 0) (xs : List X) (k : ℕ) (x : X) → AllByRecursion P xs → k < length xs → slice_index_or xs k x ≡ x → P x
AllByRecursion-at P [] k x h l e = absurd (omega arith)
AllByRecursion-at P (y ∷ ys) zero x h l e = subst P e h.0
AllByRecursion-at P (y ∷ ys) (suc k) x h l e = AllByRecursion-at P ys k x h.1 (omega arith) e

-- what holds of all items holds of each
pub AllByRecursion-contains : {X : Type 0} (P : X → Type 0) (xs : List X) (x : X) → AllByRecursion P xs → Contains xs x → P x
AllByRecursion-contains P xs x h m = AllByRecursion-at P xs m.0 x h m.1 m.2

mapped_at : {A B : Type 0} (f : A → B) (xs : List A) (k : ℕ) (x : A) → k < length xs → slice_index_or xs k x ≡ x → (k < length (map f xs)) × (slice_index_or (map f xs) k (f x) ≡ f x)
mapped_at f [] k x l e = absurd (omega arith)
mapped_at f (y ∷ ys) zero x l e = (omega arith, ap f e)
mapped_at f (y ∷ ys) (suc k) x l e = let h = mapped_at f ys k x (omega arith) e in (let m = h.0 in omega (arith, m), h.1)

-- what a list has, its image has
pub Contains-map : {A B : Type 0} (f : A → B) (xs : List A) (x : A) → Contains xs x → Contains (map f xs) (f x)
Contains-map f xs x m = let h = mapped_at f xs m.0 x m.1 m.2 in (m.0, h.0, h.1)
