-- Tables to which one list of entries after the other is added.
use Rattle.std.proofs.Common.{◌≡◌, ◌∙◌, ap, sym, refl, Bool, true, false, ◌||◌, cond, List, [], ◌∷◌, ◌++◌, Option, Some, None, is_some, if◌then◌else◌}
use Rattle.std.specs.Cmp.{IsEquivalence}
use Rattle.std.specs.List.{flat_map}
use Rattle.std.specs.Map.{lookup}
use Rattle.comp_lists.specs.Tables.{with_first}
use Rattle.world_values.specs.Tables.{with_all}

module _ {K X : Type 0} (eq : K → K → Bool) where
  pub with_all_append : (table es more : List (K × X)) → with_all eq table (es ++ more) ≡ with_all eq (with_all eq table es) more
  with_all_append table [] more = refl
  with_all_append table (e ∷ es) more = with_all_append (with_first eq table e.0 e.1) es more

  -- one list after the other
  pub after_both : (old mid new es more : List (K × X)) → mid ≡ with_all eq old es → new ≡ with_all eq mid more → new ≡ with_all eq old (es ++ more)
  after_both old mid new es more first second = second ∙ (ap (λ t. with_all eq t more) first ∙ sym (with_all_append old es more))

  -- a table with the entries of one item, and those of the following items
  pub after_item : {E : Type 0} (f : E → List (K × X)) (old new whole : List (K × X)) (x : E) (rest : List E) → new ≡ with_all eq old (f x)
      → with_all eq old (flat_map f (x ∷ rest)) ≡ whole → with_all eq new (flat_map f rest) ≡ whole
  after_item f old new whole x rest added all =
      ap (λ t. with_all eq t (flat_map f rest)) added ∙ (sym (with_all_append old (f x) (flat_map f rest)) ∙ all)

or_false : (b : Bool) → b ≡ (b || false)
or_false true = refl
or_false false = refl

or_true : (b : Bool) → (b || true) ≡ true
or_true true = refl
or_true false = refl

or_assoc : (a b c : Bool) → ((a || b) || c) ≡ (a || (b || c))
or_assoc true b c = refl
or_assoc false b c = refl

-- a new entry at the end
pushed : {K X : Type 0} (test : K → Bool) (table : List (K × X)) (k : K) (v : X) → is_some (lookup test (table ++ (k, v) ∷ [])) ≡ (is_some (lookup test table) || test k)
pushed test [] k v = by (test k)
  where
    by : (b : Bool) → is_some (cond b (Some v) None) ≡ (false || b)
    by true = refl
    by false = refl
pushed test (e ∷ es) k v = by (test e.0) (pushed test es k v)
  where
    by : (b : Bool) → is_some (lookup test (es ++ (k, v) ∷ [])) ≡ (is_some (lookup test es) || test k)
        → is_some (cond b (Some e.1) (lookup test (es ++ (k, v) ∷ []))) ≡ (is_some (cond b (Some e.1) (lookup test es)) || test k)
    by true h = refl
    by false h = h

cons_found : {X : Type 0} (b : Bool) (v : X) (o : Option X) → is_some (cond b (Some v) o) ≡ (b || is_some o)
cons_found true v o = refl
cons_found false v o = refl

same_test : {K X : Type 0} (p q : K → Bool) (es : List (K × X)) → ((k : K) → p k ≡ q k) → lookup p es ≡ lookup q es
same_test p q [] same = refl
same_test p q (e ∷ es) same = ap (λ b. cond b (Some e.1) (lookup p es)) (same e.0) ∙ ap (λ o. cond (q e.0) (Some e.1) o) (same_test p q es same)

module _ {K X : Type 0} (eq : K → K → Bool) (laws : IsEquivalence eq) where
  -- a key is in a table with one more entry exactly if it was, or is that entry's
  pub in_first : (table : List (K × X)) (k : K) (v : X) (q : K) → is_some (lookup (eq q) (with_first eq table k v)) ≡ (is_some (lookup (eq q) table) || eq q k)
  in_first table k v q = by (is_some (lookup (eq k) table)) refl
    where
      there : (c : Bool) → eq q k ≡ c → is_some (lookup (eq k) table) ≡ true → is_some (lookup (eq q) table) ≡ (is_some (lookup (eq q) table) || c)
      there false apart h = or_false (is_some (lookup (eq q) table))
      there true alike h =
          let found : is_some (lookup (eq q) table) ≡ true = ap is_some (same_test (eq q) (eq k) table (λ z. laws.congr q k z alike)) ∙ h in
          found ∙ sym (or_true (is_some (lookup (eq q) table)))

      by : (b : Bool) → is_some (lookup (eq k) table) ≡ b → is_some (lookup (eq q) (if b then table else table ++ (k, v) ∷ [])) ≡ (is_some (lookup (eq q) table) || eq q k)
      by true h = there (eq q k) refl h
      by false h = pushed (eq q) table k v

  pub in_all : (table es : List (K × X)) (q : K) → is_some (lookup (eq q) (with_all eq table es)) ≡ (is_some (lookup (eq q) table) || is_some (lookup (eq q) es))
  in_all table [] q = or_false (is_some (lookup (eq q) table))
  in_all table (e ∷ es) q =
      in_all (with_first eq table e.0 e.1) es q
      ∙ (ap (λ b. b || is_some (lookup (eq q) es)) (in_first table e.0 e.1 q)
      ∙ (or_assoc (is_some (lookup (eq q) table)) (eq q e.0) (is_some (lookup (eq q) es))
      ∙ ap (λ b. is_some (lookup (eq q) table) || b) (sym (cons_found (eq q e.0) e.1 (lookup (eq q) es)))))

  -- a table that is made of entries has exactly their keys
  pub entered : (es : List (K × X)) (q : K) → is_some (lookup (eq q) (with_all eq [] es)) ≡ is_some (lookup (eq q) es)
  entered es q = in_all [] es q
