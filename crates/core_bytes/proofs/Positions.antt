-- The index of the first item that passes a test, as a loop finds it in a list that is viewed as another.
use Rattle.std.proofs.Common.{◌≡◌, ℕ, zero, suc, ◌+◌, ◌<◌, List, [], ◌∷◌, length, get_or, drop, map, Bool, true, false, Some, None, cond, refl, ap, ◌∙◌, arith}
use Rattle.std.specs.Prelude.{nat_lt, not, position, unwrap_or}
use Rattle.std.specs.List.{position_or_len}
use Rattle.std.proofs.lemmas.Bool.Decides.{nat_tests}

-- none of the first so many passes
abbrev pub NoneBefore : {A B : Type 0} → (A → B) → (B → Bool) → List A → ℕ → Type 0
NoneBefore {A} v p xs n = (k : ℕ) (d : A) → k < n → p (v (get_or xs k d)) ≡ false

pub position_found : {A B : Type 0} (v : A → B) (p : B → Bool) (xs : List A) (n : ℕ) (d : A) → n < length xs → p (v (get_or xs n d)) ≡ true → NoneBefore v p xs n → position_or_len p (map v xs) ≡ n
position_found v p [] n d l h f = absurd (omega (arith, l))
position_found v p (x ∷ xs) zero d l h f = ap (λ b. cond (not b) (1 + position_or_len p (map v xs)) 0) h
position_found v p (x ∷ xs) (suc n) d l h f =
    let more : position_or_len p (map v (x ∷ xs)) ≡ 1 + position_or_len p (map v xs) = ap (λ b. cond (not b) (1 + position_or_len p (map v xs)) 0) (f 0 d (omega arith)) in
    let rest = position_found v p xs n d (omega (arith, l)) h (λ k e q. f (suc k) e (omega (arith, q))) in
    omega (arith, more, rest)

pub position_none : {A B : Type 0} (v : A → B) (p : B → Bool) (xs : List A) → NoneBefore v p xs (length xs) → position_or_len p (map v xs) ≡ length xs
position_none v p [] f = refl
position_none v p (x ∷ xs) f =
    let more : position_or_len p (map v (x ∷ xs)) ≡ 1 + position_or_len p (map v xs) = ap (λ b. cond (not b) (1 + position_or_len p (map v xs)) 0) (f 0 x (omega arith)) in
    let rest = position_none v p xs (λ k e q. f (suc k) e (omega (arith, q))) in
    omega (arith, more, rest)

map_len : {A B : Type 0} (v : A → B) (xs : List A) → length (map v xs) ≡ length xs
map_len v [] = refl
map_len v (x ∷ xs) = ap (λ n. suc n) (map_len v xs)

-- the same with another result where there is none
pub or_found : {A B : Type 0} (v : A → B) (p : B → Bool) (xs : List A) (n : ℕ) (d : A) (other : ℕ) → n < length xs → p (v (get_or xs n d)) ≡ true → NoneBefore v p xs n → unwrap_or (position p (map v xs)) other ≡ n
or_found v p xs n d other l h f =
    let e = position_found v p xs n d l h f in
    let t : nat_lt (position_or_len p (map v xs)) (length (map v xs)) ≡ true = grind (arith, nat_tests, e, l, map_len v xs) in
    ap (λ b. unwrap_or (cond b (Some (position_or_len p (map v xs))) None) other) t ∙ e

pub or_other : {A B : Type 0} (v : A → B) (p : B → Bool) (xs : List A) (other : ℕ) → NoneBefore v p xs (length xs) → unwrap_or (position p (map v xs)) other ≡ other
or_other v p xs other f =
    let e = position_none v p xs f in
    let t : nat_lt (position_or_len p (map v xs)) (length (map v xs)) ≡ false = grind (arith, nat_tests, e, map_len v xs) in
    ap (λ b. unwrap_or (cond b (Some (position_or_len p (map v xs))) None) other) t

pub map_drop : {A B : Type 0} (v : A → B) (n : ℕ) (xs : List A) → map v (drop n xs) ≡ drop n (map v xs)
map_drop v zero xs = refl
map_drop v (suc n) [] = refl
map_drop v (suc n) (x ∷ xs) = map_drop v n xs
