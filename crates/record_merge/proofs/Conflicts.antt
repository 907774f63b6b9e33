-- Why tables can't be merged.
use Rattle.std.proofs.Common.{◌≡◌, ℕ, Bool, true, false, List, [], ◌∷◌, ◌++◌, Option, None, Some, Ok, Err, cond, if◌then◌else◌, refl, sym, ap, subst, ◌∙◌, true≢false, is_some}
use Rattle.std.specs.Prelude.{◌≢◌, Result, IfErr}
use Rattle.std.specs.Cmp.{IsEquivalence}
use Rattle.std.specs.List.{IsDistinct, AllByRecursion}
use Rattle.std.specs.Map.{lookup, keys_of}
use Rattle.std.specs.Option.{option_map_or}
use Rattle.std.proofs.lemmas.Map.Keys.{IsDistinct-head, IsDistinct-tail}
use Rattle.json_paths.specs.declared.fault.Failure.{Failure}
use Rattle.json_paths.specs.declared.fault.Failure.TheVariants as failures
use Rattle.json_paths.specs.Faults.{◌>>=◌}
use Rattle.record_values.specs.declared.world.Wit.{Wit}
use Rattle.record_values.specs.Names.{is_same_interface, is_same_item, name_text, key_text}
use Rattle.record_merge.specs.Tables.{conflict, merged_entries, apart, or_else}
use Rattle.record_merge.specs.Causes.{Differs, IsInBoth, Named, Unless, memory, caused, WorldConflict, interface_differs, import_differs, exported_twice}
use Rattle.record_merge.proofs.Saying.{lookup_alike, lookup_last}

none_or : {X : Type 0} (o : Option X) → or_else o None ≡ o
none_or None = refl
none_or (Some x) = refl

module _ {K X : Type 0} (eq : K → K → Bool) (laws : IsEquivalence eq) where
  none_of : (j : K) (es : List (K × X)) → AllByRecursion (λ y. eq j y ≡ false) (keys_of es) → lookup (eq j) es ≡ None
  none_of j [] h = refl
  none_of j (e ∷ es) h = ap (λ b. cond b (Some e.1) (lookup (eq j) es)) h.0 ∙ none_of j es h.1

  -- a key that occurs later is not that of the entry
  apart_from : (k : K) (e : K × X) (es : List (K × X)) → IsDistinct eq (keys_of (e ∷ es)) → is_some (lookup (eq k) es) ≡ true → eq k e.0 ≡ false
  apart_from k e es d there = by (eq k e.0) refl
    where
      by : (b : Bool) → eq k e.0 ≡ b → b ≡ false
      by false h = refl
      by true h = absurd (true≢false (sym there ∙ ap is_some (lookup_alike eq laws k e.0 h es ∙ none_of e.0 es (IsDistinct-head eq e.0 (keys_of es) d))))

  -- so a look-up passes over the entry, whether the key is after it or before
  passes_last : (k : K) (a : List (K × X)) (e : K × X) → eq k e.0 ≡ false → lookup (eq k) (a ++ e ∷ []) ≡ lookup (eq k) a
  passes_last k a e h = sym (none_or (lookup (eq k) (a ++ e ∷ []))) ∙ lookup_last eq laws k a e None ∙ ap (λ b. or_else (lookup (eq k) a) (cond b (Some e.1) None)) h ∙ none_or (lookup (eq k) a)

  passes_first : (k : K) (e : K × X) (es : List (K × X)) → eq k e.0 ≡ false → lookup (eq k) (e ∷ es) ≡ lookup (eq k) es
  passes_first k e es h = ap (λ b. cond b (Some e.1) (lookup (eq k) es)) h

  is_first : (e : K × X) (es : List (K × X)) → lookup (eq e.0) (e ∷ es) ≡ Some e.1
  is_first e es = ap (λ b. cond b (Some e.1) (lookup (eq e.0) es)) (laws.refl e.0)

  module _ (text : K → List ℕ) where
    differs_later : (a : List (K × X)) (e : K × X) (es : List (K × X)) (f : List ℕ) → IsDistinct eq (keys_of (e ∷ es)) → Differs eq text a es f → Differs eq text a (e ∷ es) f
    differs_later a e es f d c = record {
      key = c.key;
      one = c.one;
      other = c.other;
      first = c.first;
      second = passes_first c.key e es (apart_from c.key e es d (ap is_some c.second)) ∙ c.second;
      unequal = c.unequal;
      reported = c.reported;
    }

    differs_before : (a : List (K × X)) (e : K × X) (es : List (K × X)) (f : List ℕ) → IsDistinct eq (keys_of (e ∷ es)) → Differs eq text (a ++ e ∷ []) es f → Differs eq text a es f
    differs_before a e es f d c = record {
      key = c.key;
      one = c.one;
      other = c.other;
      first = sym (passes_last c.key a e (apart_from c.key e es d (ap is_some c.second))) ∙ c.first;
      second = c.second;
      unequal = c.unequal;
      reported = c.reported;
    }

    both_later : (a : List (K × X)) (e : K × X) (es : List (K × X)) (f : List ℕ) → IsDistinct eq (keys_of (e ∷ es)) → IsInBoth eq text (a ++ e ∷ []) es f → IsInBoth eq text a (e ∷ es) f
    both_later a e es f d c =
        let other : eq c.key e.0 ≡ false = apart_from c.key e es d c.second in
        record {
          key = c.key;
          first = sym (ap is_some (passes_last c.key a e other)) ∙ c.first;
          second = ap is_some (passes_first c.key e es other) ∙ c.second;
          reported = c.reported;
        }

    -- where tables can't be kept apart, a key is in both
    pub apart_refused : (a b : List (K × X)) (f : Failure) → IsDistinct eq (keys_of b) → apart eq (λ e. text e.0) a b ≡ Err f → Named (IsInBoth eq text a b) f
    apart_refused a [] f d e = absurd cc
    apart_refused a (x ∷ es) f d e = by (is_some (lookup (eq x.0) a)) refl e (λ later. apart_refused (a ++ x ∷ []) es f (IsDistinct-tail eq x.0 (keys_of es) d) later)
      where
        by : (b : Bool) → is_some (lookup (eq x.0) a) ≡ b → (if b then Err (conflict (text x.0)) else apart eq (λ e. text e.0) (a ++ x ∷ []) es) ≡ Err f
            → (apart eq (λ e. text e.0) (a ++ x ∷ []) es ≡ Err f → Named (IsInBoth eq text (a ++ x ∷ []) es) f) → Named (IsInBoth eq text a (x ∷ es)) f
        by true h e more = record { name = text x.0; is = cc (e); why = record { key = x.0; first = h; second = ap is_some (is_first x es); reported = refl } }
        by false h e more = let m = more e in record { name = m.name; is = m.is; why = both_later a x es m.name d m.why }

    pub apart_cause : (a b : List (K × X)) (f : Failure) → IsDistinct eq (keys_of b) → (f ≢ failures.Memory → apart eq (λ e. text e.0) a b ≡ Err f) → Unless (Named (IsInBoth eq text a b)) f
    apart_cause a b failures.Memory d h = memory refl
    apart_cause a b (failures.Refused r) d h = caused (apart_refused a b (failures.Refused r) d (h (λ m. cc)))

    module _ (same : X → X → Bool) (sames : IsEquivalence same) where
      differs_here : (y x : X) → same y x ≡ false → y ≢ x
      differs_here y x h e = true≢false (sym (sames.refl x) ∙ ap (λ z. same z x) (sym e) ∙ h)

      -- where tables can't be merged, a key is in both with different values
      pub entries_refused : (a b : List (K × X)) (f : Failure) → IsDistinct eq (keys_of b) → merged_entries eq same text a b ≡ Err f → Named (Differs eq text a b) f
      entries_refused a [] f d e = absurd cc
      entries_refused a (x ∷ es) f d e = by (lookup (eq x.0) a) refl e (λ more later. entries_refused more es f (IsDistinct-tail eq x.0 (keys_of es) d) later)
        where
          choose : (y : X) → lookup (eq x.0) a ≡ Some y → (b : Bool) → same y x.1 ≡ b → ((if b then Ok a else Err (conflict (text x.0))) >>= λ u. merged_entries eq same text u es) ≡ Err f
              → ((more : List (K × X)) → merged_entries eq same text more es ≡ Err f → Named (Differs eq text more es) f) → Named (Differs eq text a (x ∷ es)) f
          choose y there true h e more = let m = more a e in record { name = m.name; is = m.is; why = differs_later a x es m.name d m.why }
          choose y there false h e more = record { name = text x.0; is = cc (e); why = record { key = x.0; one = y; other = x.1; first = there; second = is_first x es; unequal = differs_here y x.1 h; reported = refl } }

          by : (l : Option X) → lookup (eq x.0) a ≡ l → (option_map_or (λ y. if same y x.1 then Ok a else Err (conflict (text x.0))) l (Ok (a ++ x ∷ [])) >>= λ u. merged_entries eq same text u es) ≡ Err f
              → ((more : List (K × X)) → merged_entries eq same text more es ≡ Err f → Named (Differs eq text more es) f) → Named (Differs eq text a (x ∷ es)) f
          by None there e more = let m = more (a ++ x ∷ []) e in record { name = m.name; is = m.is; why = differs_later a x es m.name d (differs_before a x es m.name d m.why) }
          by (Some y) there e more = choose y there (same y x.1) refl e more

      pub entries_cause : (a b : List (K × X)) (f : Failure) → IsDistinct eq (keys_of b) → (f ≢ failures.Memory → merged_entries eq same text a b ≡ Err f) → Unless (Named (Differs eq text a b)) f
      entries_cause a b failures.Memory d h = memory refl
      entries_cause a b (failures.Refused r) d h = caused (entries_refused a b (failures.Refused r) d (h (λ m. cc)))

-- a conflict of tables is one of their worlds
pub of_interfaces : (a b : Wit) (f : Failure) → Unless (Named (Differs is_same_interface name_text a.interfaces b.interfaces)) f → Unless (Named (WorldConflict a b)) f
of_interfaces a b f (memory e) = memory e
of_interfaces a b f (caused c) = caused (record { name = c.name; is = c.is; why = interface_differs c.why })

pub of_imports : (a b : Wit) (f : Failure) → Unless (Named (Differs is_same_item key_text a.imports b.imports)) f → Unless (Named (WorldConflict a b)) f
of_imports a b f (memory e) = memory e
of_imports a b f (caused c) = caused (record { name = c.name; is = c.is; why = import_differs c.why })

pub of_exports : (a b : Wit) (f : Failure) → Unless (Named (IsInBoth is_same_item key_text a.exports b.exports)) f → Unless (Named (WorldConflict a b)) f
of_exports a b f (memory e) = memory e
of_exports a b f (caused c) = caused (record { name = c.name; is = c.is; why = exported_twice c.why })

pub by_memory : (a b : Wit) → Unless (Named (WorldConflict a b)) failures.Memory
by_memory a b = memory refl

-- a cause for a copy is one for the original
pub of_copy : (a b copied : Wit) (r : Result Wit Failure) → IfErr r (Unless (Named (WorldConflict copied b))) → copied ≡ a → IfErr r (Unless (Named (WorldConflict a b)))
of_copy a b copied r c is = subst (λ (w : Wit). IfErr r (Unless (Named (WorldConflict w b)))) is c

-- where memory didn't run out, the cause holds
pub reported : (cause : List ℕ → Type 0) (f : Failure) → Unless (Named cause) f → f ≢ failures.Memory → (name : List ℕ) × (f ≡ conflict name) × cause name
reported cause f (memory e) h = absurd (h e)
reported cause f (caused c) h = (c.name, c.is, c.why)
