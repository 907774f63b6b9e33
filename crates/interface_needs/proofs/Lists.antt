-- Elements of lists, of mapped and filtered ones, and of those that are joined.
use Rattle.std.proofs.Common.{◌≡◌, ◌⊎◌, ◌∙◌, ◌==◌, ℕ, zero, suc, Bool, true, false, true≢false, List, [], ◌∷◌, ◌++◌, map, filter, Contains, inl, inr, refl, sym, ap, subst, arith, if◌then◌else◌}
use Rattle.std.proofs.lemmas.Bool.{or_left, or_right, or_cases, eq-eqb, eqb-true}
use Rattle.std.proofs.lemmas.List.Elements.{Contains-append_left, Contains-append_right, Contains-append_cases}
use Rattle.std.specs.List.{AllByRecursion, flat_map, list_any}
use Rattle.wit_data.specs.declared.ids.TypeId.{TypeId}
use Rattle.type_scopes.specs.Titles.{is_one_of}

pub contains_none : {X : Type 0} {A : Type 0} (i : X) → Contains [] i → A
contains_none i (n, l, same) = absurd (omega (arith, l))

pub contains_one : {X : Type 0} (x i : X) → Contains (x ∷ []) i → x ≡ i
contains_one x i (zero, l, same) = same
contains_one x i (suc n, l, same) = absurd (omega (arith, l))

pub contains_cons : {X : Type 0} (x : X) (xs : List X) (i : X) → Contains (x ∷ xs) i → (x ≡ i) ⊎ Contains xs i
contains_cons x xs i (zero, l, same) = inl same
contains_cons x xs i (suc n, l, same) = inr (n, omega (arith, l), same)

pub contains_first : {X : Type 0} (x : X) (xs : List X) → Contains (x ∷ xs) x
contains_first x xs = (zero, omega arith, refl)

pub contains_later : {X : Type 0} (x : X) (xs : List X) (i : X) → Contains xs i → Contains (x ∷ xs) i
contains_later x xs i (n, l, same) = (suc n, omega (arith, l), same)

pub contains_flat : {A B : Type 0} (f : A → List B) (xs : List A) (x : A) (i : B) → Contains xs x → Contains (f x) i → Contains (flat_map f xs) i
contains_flat f [] x i c d = contains_none x c
contains_flat f (y ∷ ys) x i c d = elim (contains_cons y ys x c) [
  | inl same ↦ Contains-append_left (f y) (flat_map f ys) i (subst (λ z. Contains (f z) i) (sym same) d)
  | inr later ↦ Contains-append_right (f y) (flat_map f ys) i (contains_flat f ys x i later d)
]

-- an element of one of these lists
pub record IsInOne {A B : Type 0} (f : A → List B) (xs : List A) (i : B) : Type 0 where
  pub x : A
  pub one : Contains xs x
  pub there : Contains (f x) i

pub flat_contains : {A B : Type 0} (f : A → List B) (xs : List A) (i : B) → Contains (flat_map f xs) i → IsInOne f xs i
flat_contains f [] i c = contains_none i c
flat_contains f (y ∷ ys) i c = elim (Contains-append_cases (f y) (flat_map f ys) i c) [
  | inl here ↦ record { x = y; one = contains_first y ys; there = here }
  | inr later ↦ let r = flat_contains f ys i later in record { x = r.x; one = contains_later y ys r.x r.one; there = r.there }
]

-- an element that passes a test
pub record Passes {X : Type 0} (test : X → Bool) (xs : List X) : Type 0 where
  pub x : X
  pub there : Contains xs x
  pub passes : test x ≡ true

pub any_passes : {X : Type 0} (test : X → Bool) (xs : List X) → list_any test xs ≡ true → Passes test xs
any_passes test [] h = absurd (true≢false (sym h))
any_passes test (x ∷ xs) h = elim (or_cases (test x) (list_any test xs) h) [
  | inl here ↦ record { x = x; there = contains_first x xs; passes = here }
  | inr later ↦ let r = any_passes test xs later in record { x = r.x; there = contains_later x xs r.x r.there; passes = r.passes }
]

pub passes_any : {X : Type 0} (test : X → Bool) (xs : List X) (x : X) → Contains xs x → test x ≡ true → list_any test xs ≡ true
passes_any test [] x c h = contains_none x c
passes_any test (y ∷ ys) x c h = elim (contains_cons y ys x c) [
  | inl same ↦ or_left (test y) (list_any test ys) (ap test same ∙ h)
  | inr later ↦ or_right (test y) (list_any test ys) (passes_any test ys x later h)
]

-- what holds of each element
pub all_of_each : {X : Type 0} (P : X → Type 0) (xs : List X) → ((x : X) → Contains xs x → P x) → AllByRecursion P xs
all_of_each P [] h = tt
all_of_each P (x ∷ xs) h = (h x (contains_first x xs), all_of_each P xs (λ y c. h y (contains_later x xs y c)))

pub all_both : {X : Type 0} (P : X → Type 0) (xs ys : List X) → AllByRecursion P xs → AllByRecursion P ys → AllByRecursion P (xs ++ ys)
all_both P [] ys h k = k
all_both P (x ∷ xs) ys h k = (h.0, all_both P xs ys h.1 k)

pub all_flat : {A B : Type 0} (P : B → Type 0) (f : A → List B) (xs : List A) → AllByRecursion (λ x. AllByRecursion P (f x)) xs → AllByRecursion P (flat_map f xs)
all_flat P f [] h = tt
all_flat P f (x ∷ xs) h = all_both P (f x) (flat_map f xs) h.0 (all_flat P f xs h.1)

-- an element of a mapped list
pub record IsImage {A B : Type 0} (f : A → B) (xs : List A) (y : B) : Type 0 where
  pub x : A
  pub there : Contains xs x
  pub same : f x ≡ y

pub map_contains : {A B : Type 0} (f : A → B) (xs : List A) (y : B) → Contains (map f xs) y → IsImage f xs y
map_contains f [] y c = contains_none y c
map_contains f (x ∷ xs) y c = elim (contains_cons (f x) (map f xs) y c) [
  | inl same ↦ record { x = x; there = contains_first x xs; same = same }
  | inr later ↦ let r = map_contains f xs y later in record { x = r.x; there = contains_later x xs r.x r.there; same = r.same }
]

-- the elements of a filtered list
pub filter_keeps : {X : Type 0} (test : X → Bool) (xs : List X) (x : X) → Contains xs x → test x ≡ true → Contains (filter test xs) x
filter_keeps test [] x c h = contains_none x c
filter_keeps test (y ∷ ys) x c h = by (test y) refl (contains_cons y ys x c) (λ later. filter_keeps test ys x later h)
  where
    by : (b : Bool) → test y ≡ b → (y ≡ x) ⊎ Contains ys x → (Contains ys x → Contains (filter test ys) x) → Contains (if b then y ∷ filter test ys else filter test ys) x
    by true e (inl same) rest = subst (λ z. Contains (z ∷ filter test ys) x) (sym same) (contains_first x (filter test ys))
    by true e (inr later) rest = contains_later y (filter test ys) x (rest later)
    by false e (inl same) rest = absurd (true≢false (sym h ∙ (ap test (sym same) ∙ e)))
    by false e (inr later) rest = rest later

pub filter_has : {X : Type 0} (test : X → Bool) (xs : List X) (x : X) → Contains (filter test xs) x → Contains xs x × (test x ≡ true)
filter_has test [] x c = contains_none x c
filter_has test (y ∷ ys) x c = by (test y) refl c (filter_has test ys x)
  where
    by : (b : Bool) → test y ≡ b → Contains (if b then y ∷ filter test ys else filter test ys) x → (Contains (filter test ys) x → Contains ys x × (test x ≡ true)) → Contains (y ∷ ys) x × (test x ≡ true)
    by true e c rest = elim (contains_cons y (filter test ys) x c) [
      | inl same ↦ (subst (λ z. Contains (y ∷ ys) z) same (contains_first y ys), ap test (sym same) ∙ e)
      | inr later ↦ let r = rest later in (contains_later y ys x r.0, r.1)
    ]
    by false e c rest = let r = rest c in (contains_later y ys x r.0, r.1)

-- the types of a list, by their numbers
pub one_of : (ids : List TypeId) (id : TypeId) → Contains ids id → is_one_of ids id.index ≡ true
one_of ids id c = passes_any (λ (other : TypeId). id.index == other.index) ids id c (eq-eqb id.index id.index refl)

pub is_there : (ids : List TypeId) (n : ℕ) → is_one_of ids n ≡ true → Contains ids (record { index = n })
is_there ids n h =
    let r = any_passes (λ (other : TypeId). n == other.index) ids h in
    let same : r.x ≡ record { index = n } = ap (λ m. record { index = m }) (sym (eqb-true n r.x.index r.passes)) in
    subst (λ x. Contains ids x) same r.there
