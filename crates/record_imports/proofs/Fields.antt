-- Fields of groups: what adding one preserves, and what holds of all imports.
use Rattle.std.proofs.Common.{◌≡◌, ◌⊎◌, inl, inr, ℕ, Bool, true, false, cond, ◌||◌, List, [], ◌∷◌, ◌++◌, map, Option, Some, None, refl, sym, ap, subst, ◌∙◌, true≢false}
use Rattle.std.specs.Prelude.{is_some, if◌then◌else◌}
use Rattle.std.specs.List.{AllByRecursion, IsDistinct, flat_map, list_any}
use Rattle.std.specs.Map.{keys_of}
use Rattle.std.specs.Str.{bytes_eq}
use Rattle.std.proofs.lemmas.List.{map_push}
use Rattle.std.proofs.lemmas.Map.Keys.{IsDistinct-push}
use Rattle.std.proofs.lemmas.Slice.Eq.{bytes_eq-Decides}
use Rattle.comp_lists.specs.Found.{found}
use Rattle.comp_lists.proofs.Lists.{AllByRecursion-push}
use Rattle.comp_lists.proofs.Lookups.{found-push_cases, found-pushed, IsSome-found-append}
use Rattle.wit_data.specs.declared.resolve.Resolve.{Resolve}
use Rattle.comp_roles.specs.CoreImports.{CoreImport as CoreUse, imports_from}
use Rattle.comp_roles.specs.declared.imports.Import.{Import}
use Rattle.comp_roles.specs.declared.imports.ImportInstance.{ImportInstance}
use Rattle.comp_roles.specs.declared.libraries.Instance.{Instance}
use Rattle.comp_roles.specs.declared.libraries.Instance.TheVariants as arguments
use Rattle.world_values.specs.Mentions.{HasRole}
use Rattle.record_core_types.specs.Guarantees.{IsCalled}
use Rattle.record_faults.proofs.Chains.{equivalence}
use Rattle.record_imports.specs.declared.grouping.Group.{Group}
use Rattle.record_imports.specs.Arguments.{Arguments, argument_for, instance_given}
use Rattle.record_imports.specs.Meaning.{world_id}
use Rattle.record_imports.specs.Grouping.{fields_in, with_field, names_of, instances_of}
use Rattle.record_imports.proofs.Groups.{keys-names}
use Rattle.record_imports.specs.Guarantees.{IsChecked, IsGood, AreGood, AreChecked, HasDistinctFields}

-- ---- the fields of a module

bytes_same : (x y : List ℕ) → bytes_eq x y ≡ true → x ≡ y
bytes_same x y e = (bytes_eq-Decides x y).0 e

-- a field that exists after one was added existed before, or is that one
pub with_field_cases : (gs : List Group) (m f m' f' : List ℕ) (import : Import) → is_some (found f (fields_in (with_field gs m' f' import) m)) ≡ true
    → (is_some (found f (fields_in gs m)) ≡ true) ⊎ ((m' ≡ m) × (f' ≡ f))
with_field_cases [] m f m' f' import h = by (bytes_eq m m') refl h
  where
    one : (c : Bool) → bytes_eq f f' ≡ c → is_some (cond c (Some import) None) ≡ true → bytes_eq m m' ≡ true → (is_some (found f (fields_in [] m)) ≡ true) ⊎ ((m' ≡ m) × (f' ≡ f))
    one true k h e = inr (sym (bytes_same m m' e), sym (bytes_same f f' k))
    one false k h e = absurd (true≢false (sym h))

    by : (b : Bool) → bytes_eq m m' ≡ b → is_some (found f (if b then (f', import) ∷ [] else [])) ≡ true → (is_some (found f (fields_in [] m)) ≡ true) ⊎ ((m' ≡ m) × (f' ≡ f))
    by true e h = one (bytes_eq f f') refl h e
    by false e h = absurd (true≢false (sym h))
with_field_cases (g ∷ gs) m f m' f' import h = by (bytes_eq m' g.name) refl h (λ later. with_field_cases gs m f m' f' import later)
  where
    pushed : (found_there : Option Import) → found f (g.fields ++ (f', import) ∷ []) ≡ found_there → is_some found_there ≡ true → (is_some (found f g.fields) ≡ true) ⊎ (f' ≡ f)
    pushed None e h = absurd (true≢false (sym h))
    pushed (Some x) e h = elim (found-push_cases f f' import g.fields x e) [ inl k ↦ inl (ap (λ (o : Option Import). is_some o) k) | inr k ↦ inr (sym k.0) ]

    grown : (c : Bool) → bytes_eq m g.name ≡ c → bytes_eq m' g.name ≡ true → is_some (found f (if c then g.fields ++ (f', import) ∷ [] else fields_in gs m)) ≡ true
        → (is_some (found f (if c then g.fields else fields_in gs m)) ≡ true) ⊎ ((m' ≡ m) × (f' ≡ f))
    grown true k e h = elim (pushed (found f (g.fields ++ (f', import) ∷ [])) refl h) [ inl p ↦ inl p | inr p ↦ inr (bytes_same m' g.name e ∙ sym (bytes_same m g.name k), p) ]
    grown false k e h = inl h

    passed_by : (c : Bool) → is_some (found f (if c then g.fields else fields_in (with_field gs m' f' import) m)) ≡ true
        → (is_some (found f (fields_in (with_field gs m' f' import) m)) ≡ true → (is_some (found f (fields_in gs m)) ≡ true) ⊎ ((m' ≡ m) × (f' ≡ f)))
        → (is_some (found f (if c then g.fields else fields_in gs m)) ≡ true) ⊎ ((m' ≡ m) × (f' ≡ f))
    passed_by true h more = inl h
    passed_by false h more = more h

    by : (b : Bool) → bytes_eq m' g.name ≡ b → is_some (found f (fields_in (if b then record { name = g.name; fields = g.fields ++ (f', import) ∷ [] } ∷ gs else g ∷ with_field gs m' f' import) m)) ≡ true
        → (is_some (found f (fields_in (with_field gs m' f' import) m)) ≡ true → (is_some (found f (fields_in gs m)) ≡ true) ⊎ ((m' ≡ m) × (f' ≡ f)))
        → (is_some (found f (if bytes_eq m g.name then g.fields else fields_in gs m)) ≡ true) ⊎ ((m' ≡ m) × (f' ≡ f))
    by true e h more = grown (bytes_eq m g.name) refl e h
    by false e h more = passed_by (bytes_eq m g.name) h more

-- the fields so far are kept
pub with_field_keeps : (gs : List Group) (m f m' f' : List ℕ) (import : Import) → is_some (found f (fields_in gs m)) ≡ true → is_some (found f (fields_in (with_field gs m' f' import) m)) ≡ true
with_field_keeps [] m f m' f' import h = absurd (true≢false (sym h))
with_field_keeps (g ∷ gs) m f m' f' import h = by (bytes_eq m' g.name) (λ k. with_field_keeps gs m f m' f' import k)
  where
    grown : (c : Bool) → is_some (found f (if c then g.fields else fields_in gs m)) ≡ true → is_some (found f (if c then g.fields ++ (f', import) ∷ [] else fields_in gs m)) ≡ true
    grown true h = IsSome-found-append f g.fields ((f', import) ∷ []) h
    grown false h = h

    passed_by : (c : Bool) → is_some (found f (if c then g.fields else fields_in gs m)) ≡ true → (is_some (found f (fields_in gs m)) ≡ true → is_some (found f (fields_in (with_field gs m' f' import) m)) ≡ true)
        → is_some (found f (if c then g.fields else fields_in (with_field gs m' f' import) m)) ≡ true
    passed_by true h more = h
    passed_by false h more = more h

    by : (b : Bool) → (is_some (found f (fields_in gs m)) ≡ true → is_some (found f (fields_in (with_field gs m' f' import) m)) ≡ true)
        → is_some (found f (fields_in (if b then record { name = g.name; fields = g.fields ++ (f', import) ∷ [] } ∷ gs else g ∷ with_field gs m' f' import) m)) ≡ true
    by true more = grown (bytes_eq m g.name) h
    by false more = passed_by (bytes_eq m g.name) h more

-- and the new one is added
pub with_field_adds : (gs : List Group) (m f : List ℕ) (import : Import) → is_some (found f (fields_in (with_field gs m f import) m)) ≡ true
with_field_adds [] m f import = rw ((bytes_eq-Decides m m).1 refl, (bytes_eq-Decides f f).1 refl) refl
with_field_adds (g ∷ gs) m f import = by (bytes_eq m g.name) refl (with_field_adds gs m f import)
  where
    by : (b : Bool) → bytes_eq m g.name ≡ b → is_some (found f (fields_in (with_field gs m f import) m)) ≡ true
        → is_some (found f (fields_in (if b then record { name = g.name; fields = g.fields ++ (f, import) ∷ [] } ∷ gs else g ∷ with_field gs m f import) m)) ≡ true
    by true e more = rw e (found-pushed f import g.fields)
    by false e more = rw e more

-- ---- what holds of groups

none_is : (f : List ℕ) (fs : List (List ℕ × Import)) → is_some (found f fs) ≡ false → list_any (bytes_eq f) (keys_of fs) ≡ false
none_is f [] h = refl
none_is f (e ∷ es) h = by (bytes_eq f e.0) h (none_is f es)
  where
    by : (b : Bool) → is_some (cond b (Some e.1) (found f es)) ≡ false → (is_some (found f es) ≡ false → list_any (bytes_eq f) (keys_of es) ≡ false) → (b || list_any (bytes_eq f) (keys_of es)) ≡ false
    by true h more = absurd (true≢false h)
    by false h more = more h

-- a group with one field more, which is new
grown_is_good : (r : Resolve) (g : Group) (f : List ℕ) (import : Import) → IsGood r g → is_some (found f g.fields) ≡ false → IsChecked r import → IsGood r (record { name = g.name; fields = g.fields ++ (f, import) ∷ [] })
grown_is_good r g f import h lacks is = record {
  apart = subst (λ (ks : List (List ℕ)). IsDistinct bytes_eq ks) (sym (map_push (λ e. e.0) g.fields (f, import))) (IsDistinct-push equivalence (keys_of g.fields) f h.apart (none_is f g.fields lacks));
  checks = AllByRecursion-push (λ e. IsChecked r e.1) g.fields (f, import) h.checks is;
}

with_field_good : (r : Resolve) (gs : List Group) (m f : List ℕ) (import : Import) → AllByRecursion (IsGood r) gs → is_some (found f (fields_in gs m)) ≡ false → IsChecked r import
    → AllByRecursion (IsGood r) (with_field gs m f import)
unfolding IsDistinct
with_field_good r [] m f import h lacks is = (record { apart = (tt, tt); checks = (is, tt) }, tt)
with_field_good r (g ∷ gs) m f import h lacks is = by (bytes_eq m g.name) lacks (λ later. with_field_good r gs m f import h.1 later is)
  where
    by : (b : Bool) → is_some (found f (if b then g.fields else fields_in gs m)) ≡ false → (is_some (found f (fields_in gs m)) ≡ false → AllByRecursion (IsGood r) (with_field gs m f import))
        → AllByRecursion (IsGood r) (if b then record { name = g.name; fields = g.fields ++ (f, import) ∷ [] } ∷ gs else g ∷ with_field gs m f import)
    by true lacks more = (grown_is_good r g f import h.0 lacks is, h.1)
    by false lacks more = (h.0, more lacks)

-- good groups remain good with one field more, which is new
pub remains_good : (r : Resolve) (gs gs' : List Group) (m f m' f' : List ℕ) (import : Import) → AreGood r gs → is_some (found f (fields_in gs m)) ≡ false → IsChecked r import
    → m' ≡ m → f' ≡ f → gs' ≡ with_field gs m' f' import → AreGood r gs'
remains_good r gs gs' m f m' f' import h lacks is module_is field_is made =
    let same : gs' ≡ with_field gs m f import = made ∙ ap (λ (x : List ℕ). with_field gs x f' import) module_is ∙ ap (λ (x : List ℕ). with_field gs m x import) field_is in
    record { each = subst (λ (xs : List Group). AllByRecursion (IsGood r) xs) (sym same) (with_field_good r gs m f import h.each lacks is) }

-- ---- what holds of all imports

both_all : {X : Type 0} (P : X → Type 0) (xs ys : List X) → AllByRecursion P xs → AllByRecursion P ys → AllByRecursion P (xs ++ ys)
both_all P [] ys h more = more
both_all P (x ∷ xs) ys h more = (h.0, both_all P xs ys h.1 more)

fields_satisfy : (r : Resolve) (P : Import → Type 0) → ((import : Import) → IsChecked r import → P import) → (m : List ℕ) (fs : List (List ℕ × Import)) → AllByRecursion (λ f. IsChecked r f.1) fs
    → AllByRecursion (λ (i : CoreUse). P i.role) (map (λ f. record { module_name = m; field = f.0; role = f.1 }) fs)
fields_satisfy r P of m [] h = tt
fields_satisfy r P of m (f ∷ fs) h = (of f.1 h.0, fields_satisfy r P of m fs h.1)

-- the imports from one module, where each has its role
given_satisfy : (r : Resolve) (P : Import → Type 0) → ((import : Import) → IsChecked r import → P import) → (m : List ℕ) (argument : Option Instance) (fs : List (List ℕ × Import)) → AllByRecursion (λ f. IsChecked r f.1) fs
    → AllByRecursion (λ (i : CoreUse). P i.role) (imports_from (m, instance_given argument fs))
given_satisfy r P of m None fs h = fields_satisfy r P of m fs h
given_satisfy r P of m (Some (arguments.Items items)) fs h = fields_satisfy r P of m fs h
given_satisfy r P of m (Some (arguments.MainOrAdapter which)) fs h = tt

given_apart : (m : List ℕ) (argument : Option Instance) (fs : List (List ℕ × Import)) → IsDistinct bytes_eq (keys_of fs) → HasDistinctFields (m, instance_given argument fs)
given_apart m None fs h = h
given_apart m (Some (arguments.Items items)) fs h = h
given_apart m (Some (arguments.MainOrAdapter which)) fs h = tt

module _ (all : Arguments) (r : Resolve) where
  all_satisfy : (P : Import → Type 0) → ((import : Import) → IsChecked r import → P import) → (gs : List Group) → AllByRecursion (IsGood r) gs → AllByRecursion (λ (i : CoreUse). P i.role) (flat_map imports_from (instances_of all gs))
  all_satisfy P of [] h = tt
  all_satisfy P of (g ∷ gs) h =
      let good = h.0 in
      both_all (λ (i : CoreUse). P i.role) (imports_from (g.name, instance_given (argument_for all g.name) g.fields)) (flat_map imports_from (instances_of all gs))
      (given_satisfy r P of g.name (argument_for all g.name) g.fields good.checks) (all_satisfy P of gs h.1)

  fields_apart : (gs : List Group) → AllByRecursion (IsGood r) gs → AllByRecursion HasDistinctFields (instances_of all gs)
  fields_apart [] h = tt
  fields_apart (g ∷ gs) h = (let good = h.0 in given_apart g.name (argument_for all g.name) g.fields good.apart, fields_apart gs h.1)

  pub are_met : (gs : List Group) (modules : List (List ℕ × ImportInstance)) → modules ≡ instances_of all gs → AreGood r gs → IsDistinct bytes_eq (names_of gs) → AreChecked r modules
  are_met gs modules same h apart =
      let checked : AreChecked r (instances_of all gs) = record {
        present = all_satisfy (HasRole r) (λ import checks. checks.present) gs h.each;
        called = all_satisfy (IsCalled r world_id) (λ import checks. checks.called) gs h.each;
        apart = subst (λ (ks : List (List ℕ)). IsDistinct bytes_eq ks) (sym (keys-names all gs)) apart;
        fields = fields_apart gs h.each;
      } in
      subst (AreChecked r) (sym same) checked
