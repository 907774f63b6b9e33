-- Modules of a world that are made one after the other: main, and the adapters in order.
use Rattle.std.proofs.Common.{arith, ◌≡◌, ◌∙◌, ℕ, Bool, true, false, true≢false, cond, List, [], ◌∷◌, ◌++◌, Option, Some, None, Result, Ok, Err, refl, sym, ap, ap₂, subst, append_assoc, append-nil}
use Rattle.std.specs.Prelude.{◌≢◌, Contains, is_some, IsErrAnd}
use Rattle.std.specs.List.{AllByRecursion, IsDistinct}
use Rattle.std.specs.Map.{lookup, keys_of}
use Rattle.std.specs.Str.{bytes_eq}
use Rattle.std.proofs.lemmas.List.{map-append}
use Rattle.std.proofs.lemmas.List.Elements.{Contains-append_right}
use Rattle.comp_lists.proofs.Lists.{AllByRecursion-push, AllByRecursion-contains}
use Rattle.comp_lists.proofs.TableLemmas.{absent}
use Rattle.comp_roles.specs.declared.libraries.LibraryInfo.{LibraryInfo}
use Rattle.comp_worlds.specs.declared.world.WorldAdapter.{WorldAdapter}
use Rattle.record_faults.specs.declared.fault.Failure.{Failure}
use Rattle.record_faults.specs.declared.fault.Failure.TheVariants as failures
use Rattle.record_faults.specs.declared.fault.Refusal.{Refusal}
use Rattle.record_faults.specs.Faults.{◌>>=◌, Gives}
use Rattle.record_faults.proofs.Chains.{equivalence}
use Rattle.record_imports.specs.Arguments.{Arguments}
use Rattle.record_imports.specs.declared.others.OtherModules.{OtherModules}
use Rattle.record_merge.specs.declared.bindgen.Bindgen.{Bindgen}
use Rattle.record_resolve.specs.declared.resolving.Resolved.{Resolved}
use Rattle.supported_worlds.specs.Guarantees.{HasSoundParts}
use Rattle.supported_worlds.specs.Modules.{module_of}
use Rattle.world_values.specs.declared.gathered.GatheredAdapter.{GatheredAdapter}
use Rattle.world_values.specs.declared.gathered.Part.{Part}
use Rattle.comp_worlds.specs.declared.world.WorldParts.{WorldParts}
use Rattle.gathered_worlds.specs.declared.modules.ModuleParts.{ModuleParts}
use Rattle.gathered_worlds.specs.declared.preparing.Modules.{Modules}
use Rattle.gathered_worlds.specs.Adding.{IsAdapterOf, IsAdded, AreModulesOf}
use Rattle.gathered_worlds.specs.Causes.{ModuleCause, AdapterCause, AdaptersCause, of_adapter, PartsCause, of_main, of_adapters}
use Rattle.gathered_worlds.specs.Guarantees.{IsUsable, user_module, IsSoundPart}
use Rattle.gathered_worlds.specs.Arguments.{Adapters, arguments_of}
use Rattle.gathered_worlds.specs.Reach.{others_for}
use Rattle.gathered_worlds.specs.declared.reach.Reach.{Reach}
use Rattle.gathered_worlds.specs.Preparing.{module_parts, adapter_parts, adapter_in, adapters_after, world_with, parts_within}

abbrev Made : Type 0
Made = List (List ℕ × WorldAdapter)

-- ---- one adapter

-- what it may import from others, and its arguments, are those of a library where it is one
pub adapter_cause : (r : Resolved) (reach : Reach) (a : GatheredAdapter Bindgen) (others : OtherModules) (arguments : Arguments) → others ≡ others_for reach a.library_info → arguments ≡ arguments_of a.library_info
    → (f : Refusal) → ModuleCause r others arguments a.part f → AdapterCause r reach a f
adapter_cause r reach a others arguments same given f c =
    subst (λ (x : Arguments). ModuleCause r (others_for reach a.library_info) x a.part f) given (subst (λ (x : OtherModules). ModuleCause r x arguments a.part f) same c)

pub no_adapter_cause : (r : Resolved) (reach : Reach) (a : GatheredAdapter Bindgen) (others : OtherModules) (arguments : Arguments) → others ≡ others_for reach a.library_info → arguments ≡ arguments_of a.library_info
    → ((f : Refusal) → ModuleCause r others arguments a.part f → ⊥) → (f : Refusal) → AdapterCause r reach a f → ⊥
no_adapter_cause r reach a others arguments same given none f c =
    none f (subst (λ (x : OtherModules). ModuleCause r x arguments a.part f) (sym same) (subst (λ (x : Arguments). ModuleCause r (others_for reach a.library_info) x a.part f) (sym given) c))

pub is_adapter : (r : Resolved) (reach : Reach) (a : GatheredAdapter Bindgen) (parts : ModuleParts) (info : Option LibraryInfo) (w : WorldAdapter) → adapter_parts r reach a ≡ Ok parts → info ≡ a.library_info
    → w ≡ record { info = parts.info; required_exports = parts.required; library_info = info } → IsSoundPart r (user_module parts) → ((f : Refusal) → AdapterCause r reach a f → ⊥) → IsAdapterOf r reach a w
is_adapter r reach a parts info w made same is sound fine = record {
  parts = parts;
  made = made;
  is = is ∙ ap (λ (o : Option LibraryInfo). record { info = parts.info; required_exports = parts.required; library_info = o }) same;
  sound = sound;
  fine = fine;
}

pub is_added : (r : Resolved) (reach : Reach) (name own : List ℕ) (a : GatheredAdapter Bindgen) (w : WorldAdapter) (old new : Made) → IsAdapterOf r reach a w → own ≡ name → new ≡ old ++ (own, w) ∷ [] → IsAdded r reach (name, a) old new
is_added r reach name own a w old new h same put = record {
  parts = h.parts;
  made = h.made;
  put = put ∙ ap₂ (λ (n : List ℕ) (x : WorldAdapter). old ++ (n, x) ∷ []) same h.is;
  sound = h.sound;
  fine = h.fine;
}

-- ---- all adapters

-- some were added, and the rest is still to be
pub record AdaptersSoFar (r : Resolved) (reach : Reach) (all rest : Adapters) (made : Made) : Type 0 where
  pub done : Adapters
  pub is : done ++ rest ≡ all
  pub names : keys_of made ≡ keys_of done
  pub then : adapters_after r reach made rest ≡ adapters_after r reach [] all
  pub sound : AllByRecursion (λ a. IsSoundPart r (module_of a)) made
  pub fine : AllByRecursion (λ a. (f : Refusal) → AdapterCause r reach a.1 f → ⊥) done

pub adapters_start : (r : Resolved) (reach : Reach) (all : Adapters) → AdaptersSoFar r reach all all []
adapters_start r reach all = record { done = []; is = refl; names = refl; then = refl; sound = tt; fine = tt }

pub adapters_step : (r : Resolved) (reach : Reach) (all rest : Adapters) (a : List ℕ × GatheredAdapter Bindgen) (old new : Made) → AdaptersSoFar r reach all (a ∷ rest) old → IsAdded r reach a old new → AdaptersSoFar r reach all rest new
adapters_step r reach all rest a old new h added =
    let done = h.done in
    subst (AdaptersSoFar r reach all rest) (sym added.put) (record {
      done = done ++ a ∷ [];
      is = append_assoc done (a ∷ []) rest ∙ h.is;
      names =
          map-append (λ (e : List ℕ × WorldAdapter). e.0) old (adapter_in a added.parts ∷ [])
          ∙ (ap (λ ns. ns ++ a.0 ∷ []) h.names ∙ sym (map-append (λ (e : List ℕ × GatheredAdapter Bindgen). e.0) done (a ∷ [])));
      then = sym (ap (λ (x : Result ModuleParts Failure). x >>= λ m. adapters_after r reach (old ++ adapter_in a m ∷ []) rest) added.made) ∙ h.then;
      sound = AllByRecursion-push (λ x. IsSoundPart r (module_of x)) old (adapter_in a added.parts) h.sound added.sound;
      fine = AllByRecursion-push (λ x. (f : Refusal) → AdapterCause r reach x.1 f → ⊥) done a h.fine added.fine;
    })

-- a name that comes is none of those that were added
none_by_names : {A B : Type 0} (k : List ℕ) (xs : List (List ℕ × A)) (ys : List (List ℕ × B)) → keys_of xs ≡ keys_of ys → lookup (bytes_eq k) ys ≡ None → lookup (bytes_eq k) xs ≡ None
none_by_names k [] ys same none = refl
none_by_names k (x ∷ xs) [] same none = let pair : x.0 ∷ keys_of xs ≡ [] = same in absurd cc
none_by_names {A} {B} k (x ∷ xs) (y ∷ ys) same none =
    subst (λ (n : List ℕ). cond (bytes_eq k n) (Some x.1) (lookup (bytes_eq k) xs) ≡ None) (sym first) (by (bytes_eq k y.0) none (λ rest. none_by_names k xs ys (cc (pair)) rest))
  where
    pair : x.0 ∷ keys_of xs ≡ y.0 ∷ keys_of ys
    pair = same

    first : x.0 ≡ y.0
    first = cc (pair)

    by : (b : Bool) → cond b (Some y.1) (lookup (bytes_eq k) ys) ≡ None → (lookup (bytes_eq k) ys ≡ None → lookup (bytes_eq k) xs ≡ None) → cond b (Some x.1) (lookup (bytes_eq k) xs) ≡ None
    by true e more = absurd (true≢false (ap is_some e))
    by false e more = more e

pub name_absent : (r : Resolved) (reach : Reach) (all rest : Adapters) (name : List ℕ) (a : GatheredAdapter Bindgen) (made : Made) → AdaptersSoFar r reach all ((name, a) ∷ rest) made → IsDistinct bytes_eq (keys_of all) → lookup (bytes_eq name) made ≡ None
name_absent r reach all rest name a made h d = none_by_names name made h.done h.names (absent bytes_eq equivalence h.done rest all name a h.is d)

-- what holds of a failure holds of the one that a `?` returns
pub given_out : {A : Type 0} (r whole : Result A Failure) (d : Failure) → IsErrAnd r (λ e. e ≡ d) → (d ≢ failures.Memory → whole ≡ Err d) → Gives (λ x. x) r whole
given_out (Ok x) whole d is h = absurd is
given_out (Err e) whole d is h = subst (λ (x : Failure). x ≢ failures.Memory → whole ≡ Err x) (sym is) h

pub adapters_sound : (r : Resolved) (reach : Reach) (all : Adapters) (made : Made) → AdaptersSoFar r reach all [] made → AllByRecursion (λ a. IsSoundPart r (module_of a)) made
adapters_sound r reach all made h = h.sound

pub adapters_end : (r : Resolved) (reach : Reach) (all : Adapters) (made : Made) → AdaptersSoFar r reach all [] made → adapters_after r reach [] all ≡ Ok made
adapters_end r reach all made h = sym h.then

pub all_fine : (r : Resolved) (reach : Reach) (all : Adapters) (made : Made) → AdaptersSoFar r reach all [] made → (f : Refusal) → AdaptersCause r reach all f → ⊥
all_fine r reach all made h f (of_adapter a g there c) =
    let whole : h.done ≡ all = sym (append-nil h.done) ∙ h.is in
    AllByRecursion-contains (λ x. (f : Refusal) → AdapterCause r reach x.1 f → ⊥) h.done a h.fine (subst (λ (xs : Adapters). Contains xs a) (sym whole) there) f c

-- one of them is refused
pub stopped : (r : Resolved) (reach : Reach) (all rest : Adapters) (a : List ℕ × GatheredAdapter Bindgen) (made : Made) (e : Failure) → AdaptersSoFar r reach all (a ∷ rest) made → adapter_parts r reach a.1 ≡ Err e → adapters_after r reach [] all ≡ Err e
stopped r reach all rest a made e h is = sym h.then ∙ ap (λ (x : Result ModuleParts Failure). x >>= λ m. adapters_after r reach (made ++ adapter_in a m ∷ []) rest) is

pub caused : (r : Resolved) (reach : Reach) (all rest : Adapters) (a : List ℕ × GatheredAdapter Bindgen) (made : Made) (f : Refusal) → AdaptersSoFar r reach all (a ∷ rest) made → AdapterCause r reach a.1 f → AdaptersCause r reach all f
caused r reach all rest a made f h c = of_adapter a f (subst (λ (xs : Adapters). Contains xs a) h.is (Contains-append_right h.done (a ∷ rest) a (0, omega arith, refl))) c

-- ---- main and the adapters

no_parts_cause : (r : Resolved) (reach : Reach) (main : Part Bindgen) (adapters : Adapters) → ((f : Refusal) → ModuleCause r reach.main [] main f → ⊥) → ((f : Refusal) → AdaptersCause r reach adapters f → ⊥) → (f : Refusal) → PartsCause r reach main adapters f → ⊥
no_parts_cause r reach main adapters one others f (of_main g c) = one f c
no_parts_cause r reach main adapters one others f (of_adapters g c) = others f c

pub are_modules : (r : Resolved) (reach : Reach) (main : Part Bindgen) (adapters : Adapters) (parts : ModuleParts) (made : Made) → module_parts r reach.main [] main ≡ Ok parts → adapters_after r reach [] adapters ≡ Ok made → IsSoundPart r (user_module parts)
    → AllByRecursion (λ a. IsSoundPart r (module_of a)) made → ((f : Refusal) → ModuleCause r reach.main [] main f → ⊥) → ((f : Refusal) → AdaptersCause r reach adapters f → ⊥) → AreModulesOf r reach main adapters (record { main = parts; adapters = made })
are_modules r reach main adapters parts made first others sound all one each = record {
  main_made = first;
  adapters_made = others;
  main_sound = sound;
  adapters_sound = all;
  fine = no_parts_cause r reach main adapters one each;
}

-- the parts of their world
pub parts_made : (r : Resolved) (reach : Reach) (main : Part Bindgen) (adapters : Adapters) (m : Modules) (p : WorldParts) → AreModulesOf r reach main adapters m → p ≡ world_with r.resolve m.main m.adapters main.own.roles.context_slot_1 → parts_within r reach main adapters ≡ Ok p
unfolding parts_within
parts_made r reach main adapters m p h is =
    let slot = main.own.roles.context_slot_1 in
    ap (λ (x : Result ModuleParts Failure). x >>= λ one. adapters_after r reach [] adapters >>= λ made. Ok (world_with r.resolve one made slot)) h.main_made
    ∙ (ap (λ (x : Result Made Failure). x >>= λ made. Ok (world_with r.resolve m.main made slot)) h.adapters_made ∙ ap Ok (sym is))

pub parts_sound : (r : Resolved) (reach : Reach) (main : Part Bindgen) (adapters : Adapters) (m : Modules) (p : WorldParts) → IsUsable r → AreModulesOf r reach main adapters m → p ≡ world_with r.resolve m.main m.adapters main.own.roles.context_slot_1 → HasSoundParts p
parts_sound r reach main adapters m p u h is = subst (λ (x : WorldParts). HasSoundParts x) (sym is) (record {
  sound = u.sound;
  present = u.present;
  named = u.named;
  listed = u.listed;
  main = h.main_sound;
  adapters = h.adapters_sound;
})

-- a module is refused
pub main_refused : (r : Resolved) (reach : Reach) (main : Part Bindgen) (adapters : Adapters) (e : Failure) → module_parts r reach.main [] main ≡ Err e → parts_within r reach main adapters ≡ Err e
unfolding parts_within
main_refused r reach main adapters e is = ap (λ (x : Result ModuleParts Failure). x >>= λ one. adapters_after r reach [] adapters >>= λ made. Ok (world_with r.resolve one made main.own.roles.context_slot_1)) is

pub adapters_refused : (r : Resolved) (reach : Reach) (main : Part Bindgen) (adapters : Adapters) (parts : ModuleParts) (e : Failure) → module_parts r reach.main [] main ≡ Ok parts → adapters_after r reach [] adapters ≡ Err e → parts_within r reach main adapters ≡ Err e
unfolding parts_within
adapters_refused r reach main adapters parts e first is =
    let slot = main.own.roles.context_slot_1 in
    ap (λ (x : Result ModuleParts Failure). x >>= λ one. adapters_after r reach [] adapters >>= λ made. Ok (world_with r.resolve one made slot)) first
    ∙ ap (λ (x : Result Made Failure). x >>= λ made. Ok (world_with r.resolve parts made slot)) is
