-- The tables of the functions of interfaces that core imports use.
use Rattle.std.proofs.Common.{◌≡◌, ◌∙◌, ◌==◌, ◌&&◌, ◌||◌, ap, sym, refl, ℕ, Bool, true, false, cond, List, [], ◌∷◌, ◌++◌, Some, None, is_some, if◌then◌else◌, rules}
use Rattle.std.specs.Cmp.{IsEquivalence}
use Rattle.std.specs.Cmp.Rules.{comparing}
use Rattle.std.specs.Map.{lookup}
use Rattle.std.specs.Str.{bytes_eq}
use Rattle.comp_lists.specs.Found.{found}
use Rattle.comp_lists.specs.Tables.{with_first}
use Rattle.std.specs.List.{list_any}
use Rattle.wit_data.specs.declared.functions.Function.{Function}
use Rattle.wit_data.specs.declared.ids.InterfaceId.{InterfaceId}
use Rattle.comp_links.specs.Roles.{is_named}
use Rattle.comp_imports.specs.declared.interface_function.InterfaceFunction.{InterfaceFunction}
use Rattle.comp_imports.specs.Interfaces.{is_same_function}
use Rattle.root_imports.proofs.Indexing.{used_step}

or_false : (b : Bool) → b ≡ (b || false)
or_false true = refl
or_false false = refl

or_true : (b : Bool) → (b || true) ≡ true
or_true true = refl
or_true false = refl

or_assoc : (a b c : Bool) → ((a || b) || c) ≡ (a || (b || c))
or_assoc true b c = refl
or_assoc false b c = refl

-- a new entry at the end
pushed : {K X : Type 0} (test : K → Bool) (table : List (K × X)) (k : K) (v : X) → is_some (lookup test (table ++ (k, v) ∷ [])) ≡ (is_some (lookup test table) || test k)
pushed test [] k v = by (test k)
  where
    by : (b : Bool) → is_some (cond b (Some v) None) ≡ (false || b)
    by true = refl
    by false = refl
pushed test (e ∷ es) k v = by (test e.0) (pushed test es k v)
  where
    by : (b : Bool) → is_some (lookup test (es ++ (k, v) ∷ [])) ≡ (is_some (lookup test es) || test k)
        → is_some (cond b (Some e.1) (lookup test (es ++ (k, v) ∷ []))) ≡ (is_some (cond b (Some e.1) (lookup test es)) || test k)
    by true h = refl
    by false h = h

same_test : {K X : Type 0} (p q : K → Bool) (es : List (K × X)) → ((k : K) → p k ≡ q k) → lookup p es ≡ lookup q es
same_test p q [] same = refl
same_test p q (e ∷ es) same = ap (λ b. cond b (Some e.1) (lookup p es)) (same e.0) ∙ ap (λ o. cond (q e.0) (Some e.1) o) (same_test p q es same)

module _ {K X : Type 0} (eq : K → K → Bool) (laws : IsEquivalence eq) where
  -- a key is in a table with one more entry exactly if it was, or is that entry's
  in_first : (table : List (K × X)) (k : K) (v : X) (q : K) → is_some (lookup (eq q) (with_first eq table k v)) ≡ (is_some (lookup (eq q) table) || eq q k)
  in_first table k v q = by (is_some (lookup (eq k) table)) refl
    where
      there : (c : Bool) → eq q k ≡ c → is_some (lookup (eq k) table) ≡ true → is_some (lookup (eq q) table) ≡ (is_some (lookup (eq q) table) || c)
      there false apart h = or_false (is_some (lookup (eq q) table))
      there true alike h =
          let found : is_some (lookup (eq q) table) ≡ true = ap is_some (same_test (eq q) (eq k) table (λ z. laws.congr q k z alike)) ∙ h in
          found ∙ sym (or_true (is_some (lookup (eq q) table)))

      by : (b : Bool) → is_some (lookup (eq k) table) ≡ b → is_some (lookup (eq q) (if b then table else table ++ (k, v) ∷ [])) ≡ (is_some (lookup (eq q) table) || eq q k)
      by true h = there (eq q k) refl h
      by false h = pushed (eq q) table k v

function_laws : IsEquivalence is_same_function
function_laws = search (comparing, rules) depth 12

-- that a role uses a function is that it is the role's function
pub names_it : (k : InterfaceFunction) (other : InterfaceId) (name : List ℕ) → is_named k.name (if k.interface.index == other.index then Some name else None) ≡ is_same_function k (record { interface = other; name = name })
names_it k other name = by (k.interface.index == other.index)
  where
    by : (b : Bool) → is_named k.name (if b then Some name else None) ≡ (b && bytes_eq k.name name)
    by true = refl
    by false = refl

-- a function is used by the imports that were read, with this one, or by the following ones
pub interface_step : (k : InterfaceFunction) (other : InterfaceId) (name : List ℕ) (table : List (InterfaceFunction × Unit {0})) (more : Bool) →
    (is_some (lookup (is_same_function k) (with_first is_same_function table (record { interface = other; name = name }) tt)) || more)
    ≡ (is_some (lookup (is_same_function k) table) || (is_named k.name (if k.interface.index == other.index then Some name else None) || more))
interface_step k other name table more =
    ap (λ b. b || more) (in_first is_same_function function_laws table (record { interface = other; name = name }) tt k)
    ∙ (or_assoc (is_some (lookup (is_same_function k) table)) (is_same_function k (record { interface = other; name = name })) more
    ∙ ap (λ b. is_some (lookup (is_same_function k) table) || (b || more)) (sym (names_it k other name)))

-- a name is in the table after a function exactly if it was, or is that of the function, which is used
pub name_added : (text k : List ℕ) (table : List (List ℕ × Unit {0})) → is_some (found text (with_first bytes_eq table k tt)) ≡ (is_some (found text table) || (bytes_eq text k && true))
name_added text k table = or_false (is_some (found text (with_first bytes_eq table k tt))) ∙ (used_step text k tt table false ∙ ap (λ b. is_some (found text table) || b) (by (bytes_eq text k)))
  where
    by : (b : Bool) → (b || false) ≡ (b && true)
    by true = refl
    by false = refl

pub name_passed : (text k : List ℕ) (table : List (List ℕ × Unit {0})) → is_some (found text table) ≡ (is_some (found text table) || (bytes_eq text k && false))
name_passed text k table = or_false (is_some (found text table)) ∙ ap (λ b. is_some (found text table) || b) (by (bytes_eq text k))
  where
    by : (b : Bool) → false ≡ (b && false)
    by true = refl
    by false = refl

pub ruleset naming = (name_added, name_passed)

-- the names of the used functions so far, with this one, and of the following ones
pub names_step : (p : List ℕ → Bool) (before after : List (List ℕ × Unit {0})) (k : List ℕ) (used : Bool) (f : Function) (rest : List (List ℕ × Function)) (whole : List ℕ → Bool) → used ≡ p k →
    ((text : List ℕ) → is_some (found text after) ≡ (is_some (found text before) || (bytes_eq text k && used))) →
    ((text : List ℕ) → (is_some (found text before) || list_any (λ f. bytes_eq text f.0 && p f.0) ((k, f) ∷ rest)) ≡ whole text) →
    (text : List ℕ) → (is_some (found text after) || list_any (λ f. bytes_eq text f.0 && p f.0) rest) ≡ whole text
names_step p before after k used f rest whole same step h text =
    ap (λ b. b || list_any (λ f. bytes_eq text f.0 && p f.0) rest) (step text ∙ ap (λ u. is_some (found text before) || (bytes_eq text k && u)) same)
    ∙ (or_assoc (is_some (found text before)) (bytes_eq text k && p k) (list_any (λ f. bytes_eq text f.0 && p f.0) rest) ∙ h text)
