-- When adapters are refused.
use Rattle.std.proofs.Common.{◌≡◌, arith, ◌&&◌, ◌||◌, ℕ, Bool, true, false, List, [], ◌∷◌, Option, Some, None, Result, Ok, Err, refl, sym, ap, ◌∙◌, subst, true≢false}
use Rattle.std.specs.Prelude.{◌≢◌, ⊤, Contains, is_some, not, IsTrue, if◌then◌else◌}
use Rattle.std.specs.List.{AllByRecursion, list_any}
use Rattle.comp_lists.proofs.Lists.{AllByRecursion-contains}
use Rattle.comp_roles.specs.declared.libraries.LibraryInfo.{LibraryInfo}
use Rattle.std.proofs.lemmas.List.Elements.{Contains-append_right}
use Rattle.world_values.specs.declared.gathered.Gathered.{Gathered}
use Rattle.world_values.specs.declared.gathered.GatheredAdapter.{GatheredAdapter}
use Rattle.record_merge.specs.declared.bindgen.Bindgen.{Bindgen}
use Rattle.record_faults.specs.declared.fault.Failure.{Failure}
use Rattle.record_faults.specs.declared.fault.Failure.TheVariants as failures
use Rattle.record_faults.specs.declared.fault.Refusal.{Refusal}
use Rattle.record_faults.specs.declared.fault.Refusal.TheVariants as refusals
use Rattle.record_faults.specs.Faults.{flat, flat_refusal}
use Rattle.record_faults.proofs.Chains.{same_refusal, refused}
use Rattle.gathered_worlds.specs.Arguments.{Adapters}
use Rattle.gathered_worlds.specs.Preparing.{is_plain, adapters_pass}
use Rattle.gathered_worlds.specs.Causes.{PrepareCause, grows}

plain_there : (all : Adapters) → list_any is_plain all ≡ true → (a : List ℕ × GatheredAdapter Bindgen) × Contains all a × (is_plain a ≡ true)
plain_there [] h = absurd (true≢false (sym h))
plain_there (a ∷ all) h = by (is_plain a) refl h (λ k. plain_there all k)
  where
    by : (b : Bool) → is_plain a ≡ b → (b || list_any is_plain all) ≡ true → (list_any is_plain all ≡ true → (x : List ℕ × GatheredAdapter Bindgen) × Contains all x × (is_plain x ≡ true))
        → (x : List ℕ × GatheredAdapter Bindgen) × Contains (a ∷ all) x × (is_plain x ≡ true)
    by true is h more = (a, Contains-append_right [] (a ∷ all) a (0, omega arith, refl), is)
    by false is h more = let k = more h in (k.0, Contains-append_right (a ∷ []) all k.0 k.1, k.2)

no_library : {X : Type 0} (o : Option X) → not (is_some o) ≡ true → o ≡ None
no_library None h = refl
no_library (Some x) h = absurd (true≢false (sym h))

abbrev grown : Bool → Result ⊤ Failure
grown b = if b then Err (failures.Refused refusals.MemoryGrow) else Ok tt

adapters_refused : (g : Gathered Bindgen) (r : Refusal) → adapters_pass g.options.realloc_via_memory_grow g.adapters ≡ refused r → PrepareCause g (flat_refusal r)
adapters_refused g r e = by g.options.realloc_via_memory_grow (list_any is_plain g.adapters) refl refl e
  where
    by : (a b : Bool) → g.options.realloc_via_memory_grow ≡ a → list_any is_plain g.adapters ≡ b → grown (a && b) ≡ refused r
        → PrepareCause g (flat_refusal r)
    by true true on there e =
        let a = plain_there g.adapters there in
        let adapter : GatheredAdapter Bindgen = a.0.1 in
        subst (λ (x : Refusal). PrepareCause g (flat_refusal x)) (same_refusal refusals.MemoryGrow r (cc (e)))
        (grows a.0 on a.1 (no_library adapter.library_info a.2))
    by true false on there e = absurd cc
    by false b on there e = absurd cc

-- where one that is there would grow the memory, they don't pass
any_plain : (all : Adapters) (a : List ℕ × GatheredAdapter Bindgen) → AllByRecursion (λ x. is_plain x ≡ false) all → Contains all a → is_plain a ≡ false
any_plain all a h there = AllByRecursion-contains (λ x. is_plain x ≡ false) all a h there

none_plain : (all : Adapters) → list_any is_plain all ≡ false → AllByRecursion (λ x. is_plain x ≡ false) all
none_plain [] h = tt
none_plain (a ∷ all) h = by (is_plain a) refl h (none_plain all)
  where
    by : (b : Bool) → is_plain a ≡ b → (b || list_any is_plain all) ≡ false → (list_any is_plain all ≡ false → AllByRecursion (λ x. is_plain x ≡ false) all) → AllByRecursion (λ x. is_plain x ≡ false) (a ∷ all)
    by true is h more = absurd (true≢false h)
    by false is h more = (is, more h)

pub none_grows : (g : Gathered Bindgen) (t : ⊤) → adapters_pass g.options.realloc_via_memory_grow g.adapters ≡ Ok t → (a : List ℕ × GatheredAdapter Bindgen) → IsTrue g.options.realloc_via_memory_grow → Contains g.adapters a
    → a.1.library_info ≡ None → ⊥
none_grows g t e a on there none = by (list_any is_plain g.adapters) refl (ap (λ (b : Bool). grown (b && list_any is_plain g.adapters)) (sym on) ∙ e)
  where
    by : (b : Bool) → list_any is_plain g.adapters ≡ b → grown (true && b) ≡ Ok t → ⊥
    by true is e = absurd cc
    by false is e =
        true≢false (sym (ap (λ (o : Option LibraryInfo). not (is_some o)) none) ∙ any_plain g.adapters a (none_plain g.adapters is) there)

-- the refusal has its cause
pub caused : (g : Gathered Bindgen) (e : Failure) → (e ≢ failures.Memory → adapters_pass g.options.realloc_via_memory_grow g.adapters ≡ Err e) → e ≢ failures.Memory → PrepareCause g (flat e)
caused g failures.Memory h other = absurd (other refl)
caused g (failures.Refused r) h other = adapters_refused g r (h other)
