-- A list that is walked with a table of what was met: nothing occurs twice in it exactly where each
-- element is new to the table.
use Rattle.std.proofs.Common.{◌≡◌, ◌∙◌, ap, ap₂, sym, refl, Bool, true, false, not, cond, ◌&&◌, ◌||◌, List, [], ◌∷◌, ◌++◌, Option, Some, None, true≢false}
use Rattle.std.specs.Prelude.{is_some, is_none, if◌then◌else◌}
use Rattle.std.specs.List.{AllByRecursion, IsDistinct, list_any}
use Rattle.std.specs.Map.{lookup}
use Rattle.supported_worlds.specs.Distinct.{are_apart, is_new, are_new}
use Rattle.supported_worlds.proofs.InPlace.{both}

-- ---- a longer table

pub added : {X Y : Type 0} (o : Option Y) (table longer : X) → is_none o ≡ true → (if is_some o then table else longer) ≡ longer
added None table longer h = refl
added (Some n) table longer h = absurd (true≢false (sym h))

regrouped : (a s l y : Bool) → ((a && not s) && (l && not y)) ≡ ((a && l) && not (s || y))
regrouped true true l y = by l
  where
    by : (l : Bool) → false ≡ (l && false)
    by true = refl
    by false = refl
regrouped true false l y = refl
regrouped false s l y = refl

moved : (a l y z : Bool) → a ≡ true → ((a && l) && (not y && z)) ≡ ((l && not y) && z)
moved true true y z h = refl
moved true false y z h = refl
moved false l y z h = absurd (true≢false (sym h))

-- ---- one element after the other

all_new : {K : Type 0} (X : Type 0) (same : K → K → Bool) (ks : List K) → are_new {K = K} {X = X} same [] ks ≡ true
all_new X same [] = refl
all_new X same (k ∷ ks) = all_new X same ks

-- nothing was met so far
pub start : {K : Type 0} (X : Type 0) (same : K → K → Bool) (ks : List K) → are_apart same ks ≡ (are_new {K = K} {X = X} same [] ks && are_apart same ks)
start X same ks = ap (λ b. b && are_apart same ks) (sym (all_new X same ks))

module _ {K X : Type 0} (same : K → K → Bool) (flipped : (a b : K) → same a b ≡ same b a) where
  new_pushed : (k other : K) (x : X) (table : List (K × X)) → is_new same (table ++ (other, x) ∷ []) k ≡ (is_new same table k && not (same other k))
  new_pushed k other x [] = by (same k other) (flipped k other)
    where
      by : (b : Bool) → b ≡ same other k → is_none (cond b (Some x) None) ≡ not (same other k)
      by true h = ap not h
      by false h = ap not h
  new_pushed k other x (e ∷ table) = by (same k e.0) (new_pushed k other x table)
    where
      by : (b : Bool) → is_new same (table ++ (other, x) ∷ []) k ≡ (is_new same table k && not (same other k))
          → is_none (cond b (Some e.1) (lookup (same k) (table ++ (other, x) ∷ []))) ≡ (is_none (cond b (Some e.1) (lookup (same k) table)) && not (same other k))
      by true h = refl
      by false h = h

  all_new_pushed : (other : K) (x : X) (table : List (K × X)) (ks : List K) → are_new same (table ++ (other, x) ∷ []) ks ≡ (are_new same table ks && not (list_any (same other) ks))
  all_new_pushed other x table [] = refl
  all_new_pushed other x table (k ∷ ks) =
      ap₂ (λ a b. a && b) (new_pushed k other x table) (all_new_pushed other x table ks)
      ∙ regrouped (is_new same table k) (same other k) (are_new same table ks) (list_any (same other) ks)

  -- the first element is new, and is added
  pub step : (k : K) (x : X) (table : List (K × X)) (ks : List K) → is_new same table k ≡ true
      → (are_new same table (k ∷ ks) && are_apart same (k ∷ ks)) ≡ (are_new same (table ++ (k, x) ∷ []) ks && are_apart same ks)
  step k x table ks fresh =
      moved (is_new same table k) (are_new same table ks) (list_any (same k) ks) (are_apart same ks) fresh
      ∙ ap (λ b. b && are_apart same ks) (sym (all_new_pushed k x table ks))

  -- or it is not
  pub stop : (k : K) (table : List (K × X)) (ks : List K) → is_new same table k ≡ false → (are_new same table (k ∷ ks) && are_apart same (k ∷ ks)) ≡ false
  stop k table ks known = ap (λ b. (b && are_new same table ks) && (not (list_any (same k) ks) && are_apart same ks)) known

-- ---- the test, and std's word

module _ {K : Type 0} (same : K → K → Bool) where
  none_same : (k : K) (ks : List K) → not (list_any (same k) ks) ≡ true → AllByRecursion (λ y. same k y ≡ false) ks
  none_same k [] h = tt
  none_same k (y ∷ ks) h = by (same k y) refl h (none_same k ks)
    where
      by : (b : Bool) → same k y ≡ b → not (b || list_any (same k) ks) ≡ true → (not (list_any (same k) ks) ≡ true → AllByRecursion (λ y. same k y ≡ false) ks)
          → (same k y ≡ false) × AllByRecursion (λ y. same k y ≡ false) ks
      by true is h more = absurd (true≢false (sym h))
      by false is h more = (is, more h)

  none_any : (k : K) (ks : List K) → AllByRecursion (λ y. same k y ≡ false) ks → not (list_any (same k) ks) ≡ true
  none_any k [] h = refl
  none_any k (y ∷ ks) h = ap (λ b. not (b || list_any (same k) ks)) h.0 ∙ none_any k ks h.1

  pub distinct : (ks : List K) → are_apart same ks ≡ true → IsDistinct same ks
  unfolding IsDistinct
  distinct [] h = tt
  distinct (k ∷ ks) h = let b = both (not (list_any (same k) ks)) (are_apart same ks) h in (none_same k ks b.0, distinct ks b.1)

  pub apart : (ks : List K) → IsDistinct same ks → are_apart same ks ≡ true
  unfolding IsDistinct
  apart [] h = refl
  apart (k ∷ ks) h = ap₂ (λ a b. a && b) (none_any k ks h.0) (apart ks h.1)
