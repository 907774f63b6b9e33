-- What merged tables say, and merged worlds.
use Rattle.std.proofs.Common.{◌≡◌, ℕ, Bool, true, false, List, [], ◌∷◌, ◌++◌, Option, None, Some, Result, Ok, Err, cond, if◌then◌else◌, refl, sym, ap, subst, ◌∙◌, true≢false, is_some, is_ok, rules}
use Rattle.std.specs.Cmp.{IsEquivalence}
use Rattle.std.specs.Cmp.Rules.{comparing}
use Rattle.std.specs.Map.{lookup}
use Rattle.std.specs.Option.{option_map_or}
use Rattle.json_paths.specs.declared.fault.Failure.{Failure}
use Rattle.json_paths.specs.Faults.{◌>>=◌}
use Rattle.record_values.specs.declared.world.Wit.{Wit}
use Rattle.record_values.specs.Names.{is_same_interface, is_same_item, name_text, key_text}
use Rattle.record_merge.specs.Tables.{conflict, merged_entries, apart, or_else}
use Rattle.record_merge.specs.Merging.{Tests, Says, merged_wit, exports_apart}
use Rattle.record_merge.proofs.Chains.{bind_ok}

abbrev given : {A : Type 0} → A → Result A Failure → A
given a (Ok x) = x
given a (Err e) = a

no_more : {X : Type 0} (o : Option X) → o ≡ or_else o None
no_more None = refl
no_more (Some x) = refl

module _ {K X : Type 0} (eq : K → K → Bool) (laws : IsEquivalence eq) where
  pub lookup_alike : (k j : K) → eq k j ≡ true → (es : List (K × X)) → lookup (eq k) es ≡ lookup (eq j) es
  lookup_alike k j is [] = refl
  lookup_alike k j is (e ∷ es) = ap (λ b. cond b (Some e.1) (lookup (eq k) es)) (laws.congr k j e.0 is) ∙ ap (λ o. cond (eq j e.0) (Some e.1) o) (lookup_alike k j is es)

  pub lookup_last : (k : K) (a : List (K × X)) (e : K × X) (o : Option X) → or_else (lookup (eq k) (a ++ e ∷ [])) o ≡ or_else (lookup (eq k) a) (cond (eq k e.0) (Some e.1) o)
  lookup_last k [] e o = by (eq k e.0)
    where
      by : (b : Bool) → or_else (cond b (Some e.1) None) o ≡ cond b (Some e.1) o
      by true = refl
      by false = refl
  lookup_last k (x ∷ a) e o = by (eq k x.0) (lookup_last k a e o)
    where
      by : (b : Bool) → or_else (lookup (eq k) (a ++ e ∷ [])) o ≡ or_else (lookup (eq k) a) (cond (eq k e.0) (Some e.1) o) → or_else (cond b (Some x.1) (lookup (eq k) (a ++ e ∷ []))) o ≡ or_else (cond b (Some x.1) (lookup (eq k) a)) (cond (eq k e.0) (Some e.1) o)
      by true h = refl
      by false h = h

  hidden : (k j : K) (a : List (K × X)) (y x : X) (o : Option X) → lookup (eq j) a ≡ Some y → or_else (lookup (eq k) a) o ≡ or_else (lookup (eq k) a) (cond (eq k j) (Some x) o)
  hidden k j a y x o is = by (eq k j) (λ p. lookup_alike k j p a)
    where
      by : (b : Bool) → (b ≡ true → lookup (eq k) a ≡ lookup (eq j) a) → or_else (lookup (eq k) a) o ≡ or_else (lookup (eq k) a) (cond b (Some x) o)
      by true h = subst (λ l. or_else l o ≡ or_else l (Some x)) (sym (h refl ∙ is)) refl
      by false h = refl

  module _ (same : X → X → Bool) (text : K → List ℕ) where
    -- a merged table has for a key what the first has, or else what the second has
    pub entries_say : (a b t : List (K × X)) → merged_entries eq same text a b ≡ Ok t → (k : K) → lookup (eq k) t ≡ or_else (lookup (eq k) a) (lookup (eq k) b)
    entries_say a [] t is k = subst (λ u. lookup (eq k) u ≡ or_else (lookup (eq k) a) None) (ap (given a) is) (no_more (lookup (eq k) a))
    entries_say a (e ∷ es) t is k = by (lookup (eq e.0) a) refl is (λ more p. entries_say more es t p k)
      where
        choose : (y : X) → lookup (eq e.0) a ≡ Some y → (b : Bool) → ((if b then Ok a else Err (conflict (text e.0))) >>= λ u. merged_entries eq same text u es) ≡ Ok t → ((more : List (K × X)) → merged_entries eq same text more es ≡ Ok t → lookup (eq k) t ≡ or_else (lookup (eq k) more) (lookup (eq k) es)) → lookup (eq k) t ≡ or_else (lookup (eq k) a) (cond (eq k e.0) (Some e.1) (lookup (eq k) es))
        choose y there true p ih = ih a p ∙ hidden k e.0 a y e.1 (lookup (eq k) es) there
        choose y there false p ih = absurd (true≢false (sym (ap is_ok p)))

        by : (l : Option X) → lookup (eq e.0) a ≡ l → (option_map_or (λ y. if same y e.1 then Ok a else Err (conflict (text e.0))) l (Ok (a ++ e ∷ [])) >>= λ u. merged_entries eq same text u es) ≡ Ok t → ((more : List (K × X)) → merged_entries eq same text more es ≡ Ok t → lookup (eq k) t ≡ or_else (lookup (eq k) more) (lookup (eq k) es)) → lookup (eq k) t ≡ or_else (lookup (eq k) a) (cond (eq k e.0) (Some e.1) (lookup (eq k) es))
        by None there p ih = ih (a ++ e ∷ []) p ∙ lookup_last k a e (lookup (eq k) es)
        by (Some y) there p ih = choose y there (same y e.1) p ih

  module _ (reported : K × X → List ℕ) where
    pub apart_says : (a b t : List (K × X)) → apart eq reported a b ≡ Ok t → (k : K) → lookup (eq k) t ≡ or_else (lookup (eq k) a) (lookup (eq k) b)
    apart_says a [] t is k = subst (λ u. lookup (eq k) u ≡ or_else (lookup (eq k) a) None) (ap (given a) is) (no_more (lookup (eq k) a))
    apart_says a (e ∷ es) t is k = by (is_some (lookup (eq e.0) a)) is (λ more p. apart_says more es t p k)
      where
        by : (b : Bool) → (if b then Err (conflict (reported e)) else apart eq reported (a ++ e ∷ []) es) ≡ Ok t → ((more : List (K × X)) → apart eq reported more es ≡ Ok t → lookup (eq k) t ≡ or_else (lookup (eq k) more) (lookup (eq k) es)) → lookup (eq k) t ≡ or_else (lookup (eq k) a) (cond (eq k e.0) (Some e.1) (lookup (eq k) es))
        by true p ih = absurd (true≢false (sym (ap is_ok p)))
        by false p ih = ih (a ++ e ∷ []) p ∙ lookup_last k a e (lookup (eq k) es)

pub interface_laws : IsEquivalence is_same_interface
interface_laws = Prim.search (comparing, rules)

pub item_laws : IsEquivalence is_same_item
item_laws = Prim.search (comparing, rules)

-- what a merged world has for each name and key
pub merged_says : (t : Tests) (a b w : Wit) → merged_wit t a b ≡ Ok w → Says a b w
unfolding merged_wit
merged_says t a b w e =
    let i = bind_ok (merged_entries is_same_interface t.interface name_text a.interfaces b.interfaces) (λ interfaces. merged_entries is_same_item t.item key_text a.imports b.imports >>= λ imports. exports_apart a.exports b.exports >>= λ exports. Ok (record { interfaces = interfaces; imports = imports; exports = exports })) w e in
    let m = bind_ok (merged_entries is_same_item t.item key_text a.imports b.imports) (λ imports. exports_apart a.exports b.exports >>= λ exports. Ok (record { interfaces = i.0; imports = imports; exports = exports })) w i.2 in
    let x = bind_ok (exports_apart a.exports b.exports) (λ exports. Ok (record { interfaces = i.0; imports = m.0; exports = exports })) w m.2 in
    let whole : Says a b (record { interfaces = i.0; imports = m.0; exports = x.0 }) = record {
      interfaces = entries_say is_same_interface interface_laws t.interface name_text a.interfaces b.interfaces i.0 i.1;
      imports = entries_say is_same_item item_laws t.item key_text a.imports b.imports m.0 m.1;
      exports = apart_says is_same_item item_laws (λ e. key_text e.0) a.exports b.exports x.0 x.1;
    } in
    subst (λ (v : Wit). Says a b v) (ap (given w) x.2) whole
