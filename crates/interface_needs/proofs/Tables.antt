-- Tables that are made of entries whose values follow from their keys.
use Rattle.std.proofs.Common.{◌≡◌, ◌∙◌, Bool, true, false, true≢false, cond, List, [], ◌∷◌, ◌++◌, refl, sym, ap, subst, Contains, Some, None, is_some, if◌then◌else◌}
use Rattle.std.proofs.lemmas.Option.{none-some, same_Some}
use Rattle.std.specs.List.{AllByRecursion}
use Rattle.std.specs.Map.{lookup}
use Rattle.comp_lists.specs.Tables.{with_first}
use Rattle.comp_lists.proofs.Lists.{AllByRecursion-push}
use Rattle.world_values.specs.Tables.{with_all}
use Rattle.interface_needs.proofs.Lists.{contains_first, contains_later}

-- what one test finds, a wider one does
wider : {K X : Type 0} (p q : K → Bool) (es : List (K × X)) → ((k : K) → p k ≡ true → q k ≡ true) → is_some (lookup p es) ≡ true → is_some (lookup q es) ≡ true
wider p q [] more h = absurd (true≢false (sym h))
wider p q (e ∷ es) more h = by (p e.0) (q e.0) (more e.0) h (wider p q es more)
  where
    by : (a b : Bool) → (a ≡ true → b ≡ true) → is_some (cond a (Some e.1) (lookup p es)) ≡ true → (is_some (lookup p es) ≡ true → is_some (lookup q es) ≡ true) → is_some (cond b (Some e.1) (lookup q es)) ≡ true
    by a true one h rest = refl
    by true false one h rest = absurd (true≢false (sym (one refl)))
    by false false one h rest = rest h

kept : {K X : Type 0} (test : K → Bool) (table more : List (K × X)) → is_some (lookup test table) ≡ true → is_some (lookup test (table ++ more)) ≡ true
kept test [] more h = absurd (true≢false (sym h))
kept test (e ∷ es) more h = by (test e.0) h (kept test es more)
  where
    by : (b : Bool) → is_some (cond b (Some e.1) (lookup test es)) ≡ true → (is_some (lookup test es) ≡ true → is_some (lookup test (es ++ more)) ≡ true) → is_some (cond b (Some e.1) (lookup test (es ++ more))) ≡ true
    by true h rest = refl
    by false h rest = rest h

pushed : {K X : Type 0} (test : K → Bool) (table : List (K × X)) (k : K) (v : X) → test k ≡ true → is_some (lookup test (table ++ (k, v) ∷ [])) ≡ true
pushed test [] k v h = ap (λ b. is_some (cond b (Some v) None)) h
pushed test (e ∷ es) k v h = by (test e.0) (pushed test es k v h)
  where
    by : (b : Bool) → is_some (lookup test (es ++ (k, v) ∷ [])) ≡ true → is_some (cond b (Some e.1) (lookup test (es ++ (k, v) ∷ []))) ≡ true
    by true rest = refl
    by false rest = rest

module _ {K X : Type 0} (eq : K → K → Bool) (test : K → Bool) (one : (j k : K) → test j ≡ true → eq j k ≡ true → test k ≡ true) where
  first_kept : (table : List (K × X)) (k : K) (v : X) → is_some (lookup test table) ≡ true → is_some (lookup test (with_first eq table k v)) ≡ true
  first_kept table k v h = by (is_some (lookup (eq k) table))
    where
      by : (b : Bool) → is_some (lookup test (if b then table else table ++ (k, v) ∷ [])) ≡ true
      by true = h
      by false = kept test table ((k, v) ∷ []) h

  first_here : (table : List (K × X)) (k : K) (v : X) → test k ≡ true → is_some (lookup test (with_first eq table k v)) ≡ true
  first_here table k v h = by (is_some (lookup (eq k) table)) refl
    where
      by : (b : Bool) → is_some (lookup (eq k) table) ≡ b → is_some (lookup test (if b then table else table ++ (k, v) ∷ [])) ≡ true
      by true e = wider (eq k) test table (λ j same. one k j h same) e
      by false e = pushed test table k v h

  all_kept : (table es : List (K × X)) → is_some (lookup test table) ≡ true → is_some (lookup test (with_all eq table es)) ≡ true
  all_kept table [] h = h
  all_kept table (e ∷ es) h = all_kept (with_first eq table e.0 e.1) es (first_kept table e.0 e.1 h)

  -- a key of an entry is in the table
  all_there : (table es : List (K × X)) → is_some (lookup test es) ≡ true → is_some (lookup test (with_all eq table es)) ≡ true
  all_there table [] h = absurd (true≢false (sym h))
  all_there table (e ∷ es) h = by (test e.0) refl h (all_there (with_first eq table e.0 e.1) es)
    where
      next : List (K × X)
      next = with_all eq (with_first eq table e.0 e.1) es

      by : (b : Bool) → test e.0 ≡ b → is_some (cond b (Some e.1) (lookup test es)) ≡ true → (is_some (lookup test es) ≡ true → is_some (lookup test next) ≡ true) → is_some (lookup test next) ≡ true
      by true same h rest = all_kept (with_first eq table e.0 e.1) es (first_here table e.0 e.1 same)
      by false other h rest = rest h

module _ {K X : Type 0} (eq : K → K → Bool) (value : K → X) where
  -- the entry has the value of its key
  abbrev HasValue : K × X → Type 0
  HasValue e = e.1 ≡ value e.0

  with_values : (table es : List (K × X)) → AllByRecursion HasValue table → AllByRecursion HasValue es → AllByRecursion HasValue (with_all eq table es)
  with_values table [] h k = h
  with_values table (e ∷ es) h k = with_values (with_first eq table e.0 e.1) es (by (is_some (lookup (eq e.0) table))) k.1
    where
      by : (b : Bool) → AllByRecursion HasValue (if b then table else table ++ (e.0, e.1) ∷ [])
      by true = h
      by false = AllByRecursion-push HasValue table (e.0, e.1) h k.0

  found_value : (test : K → Bool) (k : K) (es : List (K × X)) → ((j : K) → test j ≡ true → j ≡ k) → AllByRecursion HasValue es → is_some (lookup test es) ≡ true → lookup test es ≡ Some (value k)
  found_value test k [] only h there = absurd (true≢false (sym there))
  found_value test k (e ∷ es) only h there = by (test e.0) refl there (found_value test k es only h.1)
    where
      by : (b : Bool) → test e.0 ≡ b → is_some (cond b (Some e.1) (lookup test es)) ≡ true → (is_some (lookup test es) ≡ true → lookup test es ≡ Some (value k)) → cond b (Some e.1) (lookup test es) ≡ Some (value k)
      by true same there rest = ap Some (h.0 ∙ ap value (only e.0 same))
      by false other there rest = rest there

  -- what a table finds that is made of entries
  pub made_finds : (test : K → Bool) (k : K) (es : List (K × X)) → ((j : K) → test j ≡ true → j ≡ k) → ((j : K) → test k ≡ true → eq k j ≡ true → test j ≡ true) → AllByRecursion (λ (e : K × X). e.1 ≡ value e.0) es → is_some (lookup test es) ≡ true →
      lookup test (with_all eq [] es) ≡ Some (value k)
  made_finds test k es only wide h there =
      found_value test k (with_all eq [] es) only (with_values [] es tt h)
      (all_there eq test (λ j i t e. let same = only j t in by j i same t e) [] es there)
    where
      by : (j i : K) → j ≡ k → test j ≡ true → eq j i ≡ true → test i ≡ true
      by j i same t e = wide i (ap test (sym same) ∙ t) (ap (λ z. eq z i) (sym same) ∙ e)

-- what is found is the value of an entry
pub lookup_contains : {K X : Type 0} (test : K → Bool) (es : List (K × X)) (v : X) → lookup test es ≡ Some v → (k : K) × Contains es (k, v)
lookup_contains {K = K} test [] v h = absurd (none-some v h)
lookup_contains {K = K} test (e ∷ es) v h = by (test e.0) h (lookup_contains test es v)
  where
    by : (b : Bool) → cond b (Some e.1) (lookup test es) ≡ Some v → (lookup test es ≡ Some v → (k : K) × Contains es (k, v)) → (k : K) × Contains (e ∷ es) (k, v)
    by true h rest = (e.0, subst (λ x. Contains (e ∷ es) (e.0, x)) (same_Some e.1 v h) (contains_first e es))
    by false h rest = let r = rest h in (r.0, contains_later e es (r.0, v) r.1)
