-- Tables that keep the first entry of each key: they find what the list of all entries finds, where equal keys are one.
use Rattle.std.proofs.Common.{◌≡◌, ◌∙◌, Bool, true, false, true≢false, List, [], ◌∷◌, ◌++◌, is_some, cond, if◌then◌else◌, refl, sym, ap, subst, append_assoc, append-nil, Some, None}
use Rattle.std.proofs.lemmas.Option.{none-some}
use Rattle.std.specs.Map.{lookup}
use Rattle.comp_lists.specs.Tables.{with_first}
use Rattle.world_values.specs.Tables.{with_all}

-- what is found at the front doesn't depend on what follows
front : {K X : Type 0} (test : K → Bool) (table more : List (K × X)) → is_some (lookup test table) ≡ true → lookup test (table ++ more) ≡ lookup test table
front test [] more h = absurd (true≢false (sym h))
front test (e ∷ es) more h = by (test e.0) h (front test es more)
  where
    by : (b : Bool) → is_some (cond b (Some e.1) (lookup test es)) ≡ true → (is_some (lookup test es) ≡ true → lookup test (es ++ more) ≡ lookup test es) → cond b (Some e.1) (lookup test (es ++ more)) ≡ cond b (Some e.1) (lookup test es)
    by true h rest = refl
    by false h rest = rest h

-- an entry of another key is passed over
skip : {K X : Type 0} (test : K → Bool) (k : K) (v : X) (table more : List (K × X)) → test k ≡ false → lookup test (table ++ (k, v) ∷ more) ≡ lookup test (table ++ more)
skip test k v [] more apart = ap (λ b. cond b (Some v) (lookup test more)) apart
skip test k v (e ∷ es) more apart = ap (λ o. cond (test e.0) (Some e.1) o) (skip test k v es more apart)

-- nothing is found among entries of other keys
pub passed_over : {K X : Type 0} (test : K → Bool) (front_part more : List (K × X)) → lookup test front_part ≡ None → lookup test (front_part ++ more) ≡ lookup test more
passed_over test [] more h = refl
passed_over test (e ∷ es) more h = by (test e.0) h (passed_over test es more)
  where
    by : (b : Bool) → cond b (Some e.1) (lookup test es) ≡ None → (lookup test es ≡ None → lookup test (es ++ more) ≡ lookup test more) → cond b (Some e.1) (lookup test (es ++ more)) ≡ lookup test more
    by true h rest = absurd (none-some e.1 (sym h))
    by false h rest = rest h

pub found_in_front : {K X : Type 0} (test : K → Bool) (front_part more : List (K × X)) (v : X) → lookup test front_part ≡ Some v → lookup test (front_part ++ more) ≡ Some v
found_in_front test table more v h = front test table more (ap is_some h) ∙ h

module _ {K X : Type 0} (eq : K → K → Bool) (one : (a b : K) → eq a b ≡ true → a ≡ b) where
  with_first_finds : (q k : K) (v : X) (table more : List (K × X)) → lookup (eq q) (with_first eq table k v ++ more) ≡ lookup (eq q) (table ++ (k, v) ∷ more)
  with_first_finds q k v table more = by (is_some (lookup (eq k) table)) refl
    where
      same : (c : Bool) → eq q k ≡ c → is_some (lookup (eq k) table) ≡ true → lookup (eq q) (table ++ more) ≡ lookup (eq q) (table ++ (k, v) ∷ more)
      same false apart h = sym (skip (eq q) k v table more apart)
      same true alike h =
          let there : is_some (lookup (eq q) table) ≡ true = subst (λ z. is_some (lookup (eq z) table) ≡ true) (sym (one q k alike)) h in
          front (eq q) table more there ∙ sym (front (eq q) table ((k, v) ∷ more) there)

      by : (b : Bool) → is_some (lookup (eq k) table) ≡ b → lookup (eq q) ((if b then table else table ++ (k, v) ∷ []) ++ more) ≡ lookup (eq q) (table ++ (k, v) ∷ more)
      by false h = ap (lookup (eq q)) (append_assoc table ((k, v) ∷ []) more)
      by true h = same (eq q k) refl h

  with_all_finds : (q : K) (table es : List (K × X)) → lookup (eq q) (with_all eq table es) ≡ lookup (eq q) (table ++ es)
  with_all_finds q table [] = ap (lookup (eq q)) (sym (append-nil table))
  with_all_finds q table (e ∷ es) = with_all_finds q (with_first eq table e.0 e.1) es ∙ with_first_finds q e.0 e.1 table es

  -- a table that is made of entries finds what the list of them finds
  pub made_finds : (q : K) (es : List (K × X)) → lookup (eq q) (with_all eq [] es) ≡ lookup (eq q) es
  made_finds q es = with_all_finds q [] es
