-- Tables that grow by the entries of one item after the other: a look-up finds what it finds in a list of all entries.
use Rattle.std.proofs.Common.{◌≡◌, ◌∙◌, ap, sym, refl, Bool, true, false, cond, List, [], ◌∷◌, ◌++◌, Some, is_some, if◌then◌else◌, append_assoc, append-nil, true≢false}
use Rattle.std.specs.Cmp.{IsEquivalence}
use Rattle.std.specs.List.{flat_map}
use Rattle.std.specs.Map.{lookup}
use Rattle.comp_lists.specs.Tables.{with_first}
use Rattle.world_values.specs.Tables.{with_all}

module _ {K X : Type 0} (eq : K → K → Bool) where
  with_all_append : (table es more : List (K × X)) → with_all eq table (es ++ more) ≡ with_all eq (with_all eq table es) more
  with_all_append table [] more = refl
  with_all_append table (e ∷ es) more = with_all_append (with_first eq table e.0 e.1) es more

  -- a table with the entries of one item, and those of the items that follow
  pub after_item : {E : Type 0} (f : E → List (K × X)) (old new whole : List (K × X)) (x : E) (rest : List E) → new ≡ with_all eq old (f x)
      → with_all eq old (flat_map f (x ∷ rest)) ≡ whole → with_all eq new (flat_map f rest) ≡ whole
  after_item f old new whole x rest added all =
      ap (λ t. with_all eq t (flat_map f rest)) added ∙ (sym (with_all_append old (f x) (flat_map f rest)) ∙ all)

-- what is found at the front doesn't depend on what follows
found_front : {K X : Type 0} (test : K → Bool) (table more : List (K × X)) → is_some (lookup test table) ≡ true → lookup test (table ++ more) ≡ lookup test table
found_front test [] more h = absurd (true≢false (sym h))
found_front {K} {X} test (e ∷ es) more h = by (test e.0) (found_front test es more) h
  where
    by : (b : Bool) → (is_some (lookup test es) ≡ true → lookup test (es ++ more) ≡ lookup test es) → is_some (cond b (Some e.1) (lookup test es)) ≡ true
        → cond b (Some e.1) (lookup test (es ++ more)) ≡ cond b (Some e.1) (lookup test es)
    by true rest h = refl
    by false rest h = rest h

-- an entry with another key is passed over
found_skip : {K X : Type 0} (test : K → Bool) (k : K) (v : X) (table rest : List (K × X)) → test k ≡ false → lookup test (table ++ (k, v) ∷ rest) ≡ lookup test (table ++ rest)
found_skip test k v [] rest apart = ap (λ b. cond b (Some v) (lookup test rest)) apart
found_skip test k v (e ∷ es) rest apart = ap (λ o. cond (test e.0) (Some e.1) o) (found_skip test k v es rest apart)

same_test : {K X : Type 0} (p q : K → Bool) (es : List (K × X)) → ((k : K) → p k ≡ q k) → lookup p es ≡ lookup q es
same_test p q [] same = refl
same_test p q (e ∷ es) same = ap (λ b. cond b (Some e.1) (lookup p es)) (same e.0) ∙ ap (λ o. cond (q e.0) (Some e.1) o) (same_test p q es same)

module _ {K X : Type 0} (eq : K → K → Bool) (laws : IsEquivalence eq) where
  -- adding an entry where its key is new: a look-up finds what it finds with the entry at the end of the list
  found_first : (q k : K) (v : X) (table rest : List (K × X)) → lookup (eq q) (with_first eq table k v ++ rest) ≡ lookup (eq q) (table ++ (k, v) ∷ rest)
  found_first q k v table rest = by (is_some (lookup (eq k) table)) refl
    where
      same : (c : Bool) → eq q k ≡ c → is_some (lookup (eq k) table) ≡ true → lookup (eq q) (table ++ rest) ≡ lookup (eq q) (table ++ (k, v) ∷ rest)
      same false apart h = sym (found_skip (eq q) k v table rest apart)
      same true alike h =
          let there : is_some (lookup (eq q) table) ≡ true = ap is_some (same_test (eq q) (eq k) table (λ z. laws.congr q k z alike)) ∙ h in
          found_front (eq q) table rest there ∙ sym (found_front (eq q) table ((k, v) ∷ rest) there)

      by : (b : Bool) → is_some (lookup (eq k) table) ≡ b → lookup (eq q) ((if b then table else table ++ (k, v) ∷ []) ++ rest) ≡ lookup (eq q) (table ++ (k, v) ∷ rest)
      by false h = ap (lookup (eq q)) (append_assoc table ((k, v) ∷ []) rest)
      by true h = same (eq q k) refl h

  found_all : (table es : List (K × X)) (q : K) → lookup (eq q) (with_all eq table es) ≡ lookup (eq q) (table ++ es)
  found_all table [] q = ap (lookup (eq q)) (sym (append-nil table))
  found_all table (e ∷ es) q = found_all (with_first eq table e.0 e.1) es q ∙ found_first q e.0 e.1 table es

  -- in a table that is made of entries a look-up finds what it finds in the entries
  pub entered : (table es : List (K × X)) → table ≡ with_all eq [] es → (q : K) → lookup (eq q) table ≡ lookup (eq q) es
  entered table es made q = ap (lookup (eq q)) made ∙ found_all [] es q
