-- What could be merged has no conflict.
use Rattle.std.proofs.Common.{◌≡◌, ◌⊎◌, inl, inr, ℕ, Bool, true, false, List, [], ◌∷◌, ◌++◌, Option, None, Some, Result, Ok, Err, cond, if◌then◌else◌, refl, sym, ap, subst, ◌∙◌, true≢false, is_some, is_ok}
use Rattle.std.specs.Cmp.{IsEquivalence}
use Rattle.std.specs.Map.{lookup}
use Rattle.std.specs.Option.{option_map_or}
use Rattle.json_paths.specs.declared.fault.Failure.{Failure}
use Rattle.json_paths.specs.Faults.{◌>>=◌}
use Rattle.record_values.specs.declared.world.Wit.{Wit}
use Rattle.record_values.specs.Names.{is_same_interface, is_same_item, name_text, key_text}
use Rattle.record_values.specs.contracts.types.InterfacePartialEq.TheImpl as interfaces
use Rattle.record_values.specs.contracts.world.ItemPartialEq.TheImpl as items
use Rattle.record_merge.specs.Tables.{conflict, with_entry, merged_entries, apart}
use Rattle.record_merge.specs.Merging.{Tests, merged_wit, exports_apart}
use Rattle.record_merge.specs.Causes.{WorldConflict, interface_differs, import_differs, exported_twice}
use Rattle.record_merge.proofs.Chains.{bind_ok}
use Rattle.record_merge.proofs.Equal.{IsOne, one_interface, one_item}
use Rattle.record_merge.proofs.Saying.{lookup_alike, interface_laws, item_laws}

pub same_some : {X : Type 0} (x y : X) → Some x ≡ Some y → x ≡ y
same_some x y e = cc

-- an entry is kept, whatever comes after it
pub lookup_kept : {K X : Type 0} (eq : K → K → Bool) (k : K) (x : X) (es more : List (K × X)) → lookup (eq k) es ≡ Some x → lookup (eq k) (es ++ more) ≡ Some x
lookup_kept eq k x [] more h = absurd cc
lookup_kept eq k x (e ∷ es) more h = by (eq k e.0) h (λ later. lookup_kept eq k x es more later)
  where
    by : (b : Bool) → cond b (Some e.1) (lookup (eq k) es) ≡ Some x → (lookup (eq k) es ≡ Some x → lookup (eq k) (es ++ more) ≡ Some x) → cond b (Some e.1) (lookup (eq k) (es ++ more)) ≡ Some x
    by true h again = h
    by false h again = again h

pub some_kept : {K X : Type 0} (eq : K → K → Bool) (k : K) (es more : List (K × X)) → is_some (lookup (eq k) es) ≡ true → is_some (lookup (eq k) (es ++ more)) ≡ true
some_kept eq k [] more h = absurd (true≢false (sym h))
some_kept eq k (e ∷ es) more h = by (eq k e.0) h (λ later. some_kept eq k es more later)
  where
    by : (b : Bool) → is_some (cond b (Some e.1) (lookup (eq k) es)) ≡ true → (is_some (lookup (eq k) es) ≡ true → is_some (lookup (eq k) (es ++ more)) ≡ true) → is_some (cond b (Some e.1) (lookup (eq k) (es ++ more))) ≡ true
    by true h again = refl
    by false h again = again h

pub lookup_pushed : {K X : Type 0} (eq : K → K → Bool) (k : K) (x : X) (es : List (K × X)) → eq k k ≡ true → lookup (eq k) es ≡ None → lookup (eq k) (es ++ (k, x) ∷ []) ≡ Some x
lookup_pushed eq k x [] same h = ap (λ b. cond b (Some x) None) same
lookup_pushed eq k x (e ∷ es) same h = by (eq k e.0) h (λ later. lookup_pushed eq k x es same later)
  where
    by : (b : Bool) → cond b (Some e.1) (lookup (eq k) es) ≡ None → (lookup (eq k) es ≡ None → lookup (eq k) (es ++ (k, x) ∷ []) ≡ Some x) → cond b (Some e.1) (lookup (eq k) (es ++ (k, x) ∷ [])) ≡ Some x
    by true h more = absurd cc
    by false h more = more h

-- a table took an entry: it had the entry with the same value, or has it now
module _ {K X : Type 0} (eq : K → K → Bool) (same : X → X → Bool) (text : K → List ℕ) where
  pub entry_ok : (table more : List (K × X)) (k : K) (x : X) → with_entry eq same text table k x ≡ Ok more
      → ((y : X) × (lookup (eq k) table ≡ Some y) × (same y x ≡ true) × (more ≡ table)) ⊎ ((lookup (eq k) table ≡ None) × (more ≡ table ++ (k, x) ∷ []))
  entry_ok table more k x e = by (lookup (eq k) table) refl e
    where
      choose : (y : X) (b : Bool) → same y x ≡ b → lookup (eq k) table ≡ Some y → (if b then Ok table else Err (conflict (text k))) ≡ Ok more
          → ((y : X) × (lookup (eq k) table ≡ Some y) × (same y x ≡ true) × (more ≡ table)) ⊎ ((lookup (eq k) table ≡ None) × (more ≡ table ++ (k, x) ∷ []))
      choose y true is there e = inl (y, there, is, cc (e))
      choose y false is there e = absurd (true≢false (sym (ap is_ok e)))

      by : (o : Option X) → lookup (eq k) table ≡ o → option_map_or (λ y. if same y x then Ok table else Err (conflict (text k))) o (Ok (table ++ (k, x) ∷ [])) ≡ Ok more
          → ((y : X) × (lookup (eq k) table ≡ Some y) × (same y x ≡ true) × (more ≡ table)) ⊎ ((lookup (eq k) table ≡ None) × (more ≡ table ++ (k, x) ∷ []))
      by None there e = inr (there, cc (e))
      by (Some y) there e = choose y (same y x) refl there e

  pub entry_keeps : (table more : List (K × X)) (k : K) (x : X) (j : K) (y : X) → with_entry eq same text table k x ≡ Ok more → lookup (eq j) table ≡ Some y → lookup (eq j) more ≡ Some y
  entry_keeps table more k x j y e there =
      elim (entry_ok table more k x e) [
        | inl h ↦ ap (λ (t : List (K × X)). lookup (eq j) t) h.3 ∙ there
        | inr h ↦ ap (λ (t : List (K × X)). lookup (eq j) t) h.1 ∙ lookup_kept eq j y table ((k, x) ∷ []) there
      ]

  module _ (laws : IsEquivalence eq) (one : IsOne same) where
    -- the values that both have for a key are one
    pub entries_agree : (a b t : List (K × X)) → merged_entries eq same text a b ≡ Ok t → (k : K) (x y : X) → lookup (eq k) a ≡ Some x → lookup (eq k) b ≡ Some y → x ≡ y
    entries_agree a [] t is k x y first second = absurd cc
    entries_agree a (e ∷ es) t is k x y first second =
        let u = bind_ok (with_entry eq same text a e.0 e.1) (λ v. merged_entries eq same text v es) t is in
        by (eq k e.0) refl second u.1 (λ later. entries_agree u.0 es t u.2 k x y (entry_keeps a u.0 e.0 e.1 k x u.1 first) later)
      where
        by : {more : List (K × X)} (b : Bool) → eq k e.0 ≡ b → cond b (Some e.1) (lookup (eq k) es) ≡ Some y → with_entry eq same text a e.0 e.1 ≡ Ok more → (lookup (eq k) es ≡ Some y → x ≡ y) → x ≡ y
        by {more} true h second taken again =
            let here : lookup (eq e.0) a ≡ Some x = sym (lookup_alike eq laws k e.0 h a) ∙ first in
            elim (entry_ok a more e.0 e.1 taken) [
              | inl z ↦ same_some x z.0 (sym here ∙ z.1) ∙ one z.0 e.1 z.2 ∙ same_some e.1 y second
              | inr z ↦ absurd (true≢false (ap is_some (sym here ∙ z.0)))
            ]
        by {more} false h second taken again = again second

module _ {K X : Type 0} (eq : K → K → Bool) (laws : IsEquivalence eq) (reported : K × X → List ℕ) where
  -- no key is in both
  pub apart_agrees : (a b t : List (K × X)) → apart eq reported a b ≡ Ok t → (k : K) → is_some (lookup (eq k) a) ≡ true → is_some (lookup (eq k) b) ≡ true → ⊥
  apart_agrees a [] t is k first second = true≢false (sym second)
  apart_agrees a (e ∷ es) t is k first second = by (is_some (lookup (eq e.0) a)) refl is (λ taken. apart_agrees (a ++ e ∷ []) es t taken k (some_kept eq k a (e ∷ []) first))
    where
      split : (b : Bool) → eq k e.0 ≡ b → is_some (cond b (Some e.1) (lookup (eq k) es)) ≡ true → is_some (lookup (eq e.0) a) ≡ false → (is_some (lookup (eq k) es) ≡ true → ⊥) → ⊥
      split true h second none again = true≢false (sym first ∙ ap is_some (lookup_alike eq laws k e.0 h a) ∙ none)
      split false h second none again = again second

      by : (b : Bool) → is_some (lookup (eq e.0) a) ≡ b → (if b then Err (conflict (reported e)) else apart eq reported (a ++ e ∷ []) es) ≡ Ok t
          → (apart eq reported (a ++ e ∷ []) es ≡ Ok t → is_some (lookup (eq k) es) ≡ true → ⊥) → ⊥
      by true none is again = true≢false (sym (ap is_ok is))
      by false none is again = split (eq k e.0) refl second none (again is)

-- the tables of a merged world
pub record Combined (t : Tests) (a b w : Wit) : Type 0 where
  pub interfaces : merged_entries is_same_interface t.interface name_text a.interfaces b.interfaces ≡ Ok w.interfaces
  pub imports : merged_entries is_same_item t.item key_text a.imports b.imports ≡ Ok w.imports
  pub exports : exports_apart a.exports b.exports ≡ Ok w.exports

abbrev given : Wit → Result Wit Failure → Wit
given v (Ok w) = w
given v (Err f) = v

pub merged_is : (t : Tests) (a b w : Wit) → merged_wit t a b ≡ Ok w → Combined t a b w
unfolding merged_wit
merged_is t a b w e =
    let i = bind_ok (merged_entries is_same_interface t.interface name_text a.interfaces b.interfaces) (λ interfaces. merged_entries is_same_item t.item key_text a.imports b.imports >>= λ imports. exports_apart a.exports b.exports >>= λ exports. Ok (record { interfaces = interfaces; imports = imports; exports = exports })) w e in
    let m = bind_ok (merged_entries is_same_item t.item key_text a.imports b.imports) (λ imports. exports_apart a.exports b.exports >>= λ exports. Ok (record { interfaces = i.0; imports = imports; exports = exports })) w i.2 in
    let x = bind_ok (exports_apart a.exports b.exports) (λ exports. Ok (record { interfaces = i.0; imports = m.0; exports = exports })) w m.2 in
    let whole : Combined t a b (record { interfaces = i.0; imports = m.0; exports = x.0 }) = record { interfaces = i.1; imports = m.1; exports = x.1 } in
    let built : Wit = record { interfaces = i.0; imports = m.0; exports = x.0 } in
    subst (λ (v : Wit). Combined t a b v) (ap (given w) x.2) whole

abbrev pub world_tests : Tests
world_tests = record { interface = interfaces.eq-value.it; item = items.eq-value.it }

-- worlds that could be merged have no conflict
pub no_conflict : (a b w : Wit) → merged_wit world_tests a b ≡ Ok w → (name : List ℕ) → WorldConflict a b name → ⊥
no_conflict a b w e name (interface_differs c) = c.unequal (entries_agree is_same_interface interfaces.eq-value.it name_text interface_laws one_interface a.interfaces b.interfaces w.interfaces (merged_is world_tests a b w e).interfaces c.key c.one c.other c.first c.second)
no_conflict a b w e name (import_differs c) = c.unequal (entries_agree is_same_item items.eq-value.it key_text item_laws one_item a.imports b.imports w.imports (merged_is world_tests a b w e).imports c.key c.one c.other c.first c.second)
no_conflict a b w e name (exported_twice c) = apart_agrees is_same_item item_laws (λ e. key_text e.0) a.exports b.exports w.exports (merged_is world_tests a b w e).exports c.key c.first c.second
