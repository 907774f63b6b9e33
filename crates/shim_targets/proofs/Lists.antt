-- Elements of lists that are joined, and what holds of all of them.
use Rattle.std.proofs.Common.{◌≡◌, ◌∙◌, ◌⊎◌, ap, Bool, true, false, true≢false, ℕ, zero, suc, List, [], ◌∷◌, ◌++◌, Contains, inl, inr, refl, sym, subst, arith, Some}
use Rattle.std.proofs.lemmas.List.Elements.{Contains-append_left, Contains-append_right, Contains-append_cases}
use Rattle.std.proofs.lemmas.Option.{none-some, same_Some}
use Rattle.std.specs.List.{AllByRecursion, flat_map, list_any, slice_get}
use Rattle.std.proofs.lemmas.Bool.{or_left, or_right, or_cases}

pub contains_none : {X : Type 0} {A : Type 0} (x : X) → Contains [] x → A
contains_none x (n, l, same) = absurd (omega (arith, l))

pub contains_cons : {X : Type 0} (y : X) (ys : List X) (x : X) → Contains (y ∷ ys) x → (y ≡ x) ⊎ Contains ys x
contains_cons y ys x (zero, l, same) = inl same
contains_cons y ys x (suc n, l, same) = inr (n, omega (arith, l), same)

pub contains_first : {X : Type 0} (x : X) (xs : List X) → Contains (x ∷ xs) x
contains_first x xs = (zero, omega arith, refl)

pub contains_later : {X : Type 0} (y : X) (ys : List X) (x : X) → Contains ys x → Contains (y ∷ ys) x
contains_later y ys x (n, l, same) = (suc n, omega (arith, l), same)

pub contains_flat : {A B : Type 0} (f : A → List B) (xs : List A) (x : A) (y : B) → Contains xs x → Contains (f x) y → Contains (flat_map f xs) y
contains_flat f [] x y c d = contains_none x c
contains_flat f (z ∷ zs) x y c d = elim (contains_cons z zs x c) [
  | inl same ↦ Contains-append_left (f z) (flat_map f zs) y (subst (λ v. Contains (f v) y) (sym same) d)
  | inr later ↦ Contains-append_right (f z) (flat_map f zs) y (contains_flat f zs x y later d)
]

-- an element of one of these lists
pub record IsInOne {A B : Type 0} (f : A → List B) (xs : List A) (y : B) : Type 0 where
  pub x : A
  pub one : Contains xs x
  pub there : Contains (f x) y

pub flat_contains : {A B : Type 0} (f : A → List B) (xs : List A) (y : B) → Contains (flat_map f xs) y → IsInOne f xs y
flat_contains f [] y c = contains_none y c
flat_contains f (x ∷ xs) y c = elim (Contains-append_cases (f x) (flat_map f xs) y c) [
  | inl here ↦ record { x = x; one = contains_first x xs; there = here }
  | inr later ↦ let r = flat_contains f xs y later in record { x = r.x; one = contains_later x xs r.x r.one; there = r.there }
]

-- the first of joined lists is the first of one of them
pub record IsFirstOf {A B : Type 0} (f : A → List B) (xs : List A) (y : B) : Type 0 where
  pub x : A
  pub there : Contains xs x
  pub first : slice_get (f x) 0 ≡ Some y

pub first_of_flat : {A B : Type 0} (f : A → List B) (xs : List A) (y : B) → slice_get (flat_map f xs) 0 ≡ Some y → IsFirstOf f xs y
first_of_flat f [] y e = absurd (none-some y e)
first_of_flat {A} {B} f (x ∷ xs) y e = by (f x) refl e (first_of_flat f xs y)
  where
    by : (ys : List B) → f x ≡ ys → slice_get (ys ++ flat_map f xs) 0 ≡ Some y → (slice_get (flat_map f xs) 0 ≡ Some y → IsFirstOf f xs y) → IsFirstOf f (x ∷ xs) y
    by [] is e rest = let r = rest e in record { x = r.x; there = contains_later x xs r.x r.there; first = r.first }
    by (z ∷ zs) is e rest = record { x = x; there = contains_first x xs; first = subst (λ l. slice_get l 0 ≡ Some y) (sym is) e }

-- ---- tests

pub passes_any : {X : Type 0} (test : X → Bool) (xs : List X) (x : X) → Contains xs x → test x ≡ true → list_any test xs ≡ true
passes_any test [] x c h = contains_none x c
passes_any test (y ∷ ys) x c h = elim (contains_cons y ys x c) [
  | inl same ↦ or_left (test y) (list_any test ys) (ap test same ∙ h)
  | inr later ↦ or_right (test y) (list_any test ys) (passes_any test ys x later h)
]

pub any_push : {X : Type 0} (test : X → Bool) (xs : List X) (x : X) → list_any test (xs ++ x ∷ []) ≡ true → (list_any test xs ≡ true) ⊎ (test x ≡ true)
any_push test [] x h = elim (or_cases (test x) false h) [
  | inl here ↦ inr here
  | inr none ↦ absurd (true≢false (sym none))
]
any_push test (y ∷ ys) x h = elim (or_cases (test y) (list_any test (ys ++ x ∷ [])) h) [
  | inl here ↦ inl (or_left (test y) (list_any test ys) here)
  | inr later ↦ elim (any_push test ys x later) [
    | inl before ↦ inl (or_right (test y) (list_any test ys) before)
    | inr last ↦ inr last
  ]
]

-- ---- what holds of all

pub all_both : {X : Type 0} (P : X → Type 0) (xs ys : List X) → AllByRecursion P xs → AllByRecursion P ys → AllByRecursion P (xs ++ ys)
all_both P [] ys h k = k
all_both P (x ∷ xs) ys h k = (h.0, all_both P xs ys h.1 k)

pub all_flat : {A B : Type 0} (P : B → Type 0) (f : A → List B) (xs : List A) → ((x : A) → Contains xs x → AllByRecursion P (f x)) → AllByRecursion P (flat_map f xs)
all_flat P f [] h = tt
all_flat P f (x ∷ xs) h = all_both P (f x) (flat_map f xs) (h x (contains_first x xs)) (all_flat P f xs (λ y c. h y (contains_later x xs y c)))

pub all_at : {X : Type 0} (P : X → Type 0) (xs : List X) (n : ℕ) (x : X) → AllByRecursion P xs → slice_get xs n ≡ Some x → P x
all_at P [] n x h e = absurd (none-some x e)
all_at P (y ∷ ys) zero x h e = subst P (same_Some y x e) h.0
all_at P (y ∷ ys) (suc n) x h e = all_at P ys n x h.1 e
