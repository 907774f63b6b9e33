-- Tables as lists of their entries: what adding an entry gives.
use Rattle.std.proofs.Common.{◌≡◌, Bool, true, false, List, [], ◌∷◌, ◌++◌, None, Some, cond, if◌then◌else◌, refl, sym, ap, subst, ◌∙◌, true≢false, is_some}
use Rattle.std.specs.Cmp.{IsEquivalence}
use Rattle.std.specs.List.{IsDistinct, AllByRecursion}
use Rattle.std.specs.Map.{lookup, keys_of}
use Rattle.std.proofs.lemmas.Map.Keys.{IsDistinct-head, IsDistinct-tail}
use Rattle.indexmap.specs.IndexMap.{insert_entry}

module _ {K X : Type 0} (eq : K → K → Bool) where
  -- a new key comes last
  pub insert_new : (es : List (K × X)) (k : K) (v : X) → lookup (eq k) es ≡ None → insert_entry eq es k v ≡ es ++ (k, v) ∷ []
  insert_new [] k v none = refl
  insert_new (e ∷ es) k v none = by (eq k e.0) none (λ p. insert_new es k v p)
    where
      by : (b : Bool) → cond b (Some e.1) (lookup (eq k) es) ≡ None → (lookup (eq k) es ≡ None → insert_entry eq es k v ≡ es ++ (k, v) ∷ []) → (if b then (e.0, v) ∷ es else e ∷ insert_entry eq es k v) ≡ e ∷ es ++ (k, v) ∷ []
      by true p more = absurd (true≢false (ap is_some p))
      by false p more = ap (λ xs. e ∷ xs) (more p)

  pub grows : (old view new : List (K × X)) (k : K) (v : X) → new ≡ insert_entry eq old k v → view ≡ old → lookup (eq k) view ≡ None → new ≡ view ++ (k, v) ∷ []
  grows old view new k v is same none = is ∙ insert_new old k v (subst (λ es. lookup (eq k) es ≡ None) same none) ∙ ap (λ es. es ++ (k, v) ∷ []) (sym same)

  at_entry : (P : K → Type 0) (done : List (K × X)) (e : K × X) (rest : List (K × X)) → AllByRecursion P (keys_of (done ++ e ∷ rest)) → P e.0
  at_entry P [] e rest h = h.0
  at_entry P (x ∷ done) e rest h = at_entry P done e rest h.1

  -- a key that comes later isn't among the earlier ones
  absent_before : IsEquivalence eq → (done : List (K × X)) (e : K × X) (rest : List (K × X)) → IsDistinct eq (keys_of (done ++ e ∷ rest)) → lookup (eq e.0) done ≡ None
  absent_before laws [] e rest d = refl
  absent_before laws (x ∷ done) e rest d =
      ap (λ b. cond b (Some x.1) (lookup (eq e.0) done)) (laws.symm e.0 x.0 ∙ at_entry (λ y. eq x.0 y ≡ false) done e rest (IsDistinct-head eq x.0 (keys_of (done ++ e ∷ rest)) d))
      ∙ absent_before laws done e rest (IsDistinct-tail eq x.0 (keys_of (done ++ e ∷ rest)) d)

  pub absent : IsEquivalence eq → (done rest table : List (K × X)) (k : K) (v : X) → done ++ (k, v) ∷ rest ≡ table → IsDistinct eq (keys_of table) → lookup (eq k) done ≡ None
  absent laws done rest table k v is d = absent_before laws done (k, v) rest (subst (λ t. IsDistinct eq (keys_of t)) (sym is) d)
