-- The whole of preparing.
use Rattle.std.proofs.Common.{take, ◌≡◌, ℕ, List, Option, Some, None, Result, Ok, Err, refl, ap, subst, ◌∙◌}
use Rattle.std.specs.Prelude.{◌≢◌, ⊤, IfErr, IsOk, IsSome}
use Rattle.core_types.specs.Core.{IsCoreModule}
use Rattle.world_values.specs.declared.gathered.Gathered.{Gathered}
use Rattle.world_values.specs.declared.gathered.Part.{Part}
use Rattle.comp_worlds.specs.declared.world.ComponentWorld.{ComponentWorld}
use Rattle.comp_worlds.specs.declared.world.WorldParts.{WorldParts}
use Rattle.supported_worlds.specs.Causes.{IsLeftOut}
use Rattle.gathered_worlds.specs.declared.modules.ModuleParts.{ModuleParts}
use Rattle.core_sections.specs.declared.core_module.CoreModule.{CoreModule}
use Rattle.core_sections.specs.declared.fault.SectionFault.{SectionFault}
use Rattle.core_sections.specs.declared.fault.SectionFault.TheVariants as section_faults
use Rattle.core_sections.specs.Sections.{◌>>=◌ as ◌>>>=◌, Piece, pieces_of}
use Rattle.core_sections.specs.Entries.{module_of, entries_from, no_entries}
use Rattle.core_sections.proofs.Modules.{module_takes}
use Rattle.record_faults.specs.declared.fault.Failure.{Failure}
use Rattle.record_faults.specs.declared.fault.Failure.TheVariants as failures
use Rattle.record_faults.specs.declared.fault.Refusal.{Refusal}
use Rattle.record_faults.specs.declared.fault.PlainFault.{PlainFault}
use Rattle.record_faults.specs.Faults.{◌>>=◌, lifted, of_section, flat, flat_refusal}
use Rattle.record_merge.specs.declared.bindgen.Bindgen.{Bindgen}
use Rattle.record_resolve.specs.declared.resolving.Resolved.{Resolved}
use Rattle.gathered_worlds.specs.Arguments.{Adapters}
use Rattle.gathered_worlds.specs.Reach.{reach_of}
use Rattle.gathered_worlds.specs.Preparing.{adapters_pass, combined, world_parts, preparing_if, preparing}
use Rattle.gathered_worlds.specs.Causes.{CombinedCause, RolesCause, ModuleCause, unread, as_core, PartsCause, WholeCause, unlinked, not_yet, WorldCause, of_parts, of_whole, PrepareCause, grows, of_combined, of_world}
use Rattle.linked_modules.specs.LinkCauses.{LinkCause}
use Rattle.record_imports.specs.Arguments.{Arguments}
use Rattle.record_imports.specs.declared.others.OtherModules.{OtherModules}
use Rattle.gathered_worlds.proofs.Refusing.{none_grows}

same_ok : {A E : Type 0} (r : Result A E) (x y : A) → r ≡ Ok x → r ≡ Ok y → x ≡ y
same_ok r x y a b = cc

-- ---- one module

-- what is read as a core module begins as one
pub begins : (bytes : List ℕ) (m : CoreModule) → module_of bytes ≡ Ok m → IsCoreModule bytes
unfolding module_of
begins bytes m e = by (pieces_of bytes) refl e
  where
    by : (r : Result (List Piece) SectionFault) → pieces_of bytes ≡ r → (r >>>= λ ps. entries_from 8 no_entries ps) ≡ Ok m → IsCoreModule bytes
    by (Ok ps) is e = let t = module_takes bytes ps is in ap (take 8) t.encoded
    by (Err f) is e = absurd cc

-- a module that can't be read
pub unread_caused : (r : Resolved) (others : OtherModules) (arguments : Arguments) (part : Part Bindgen) (f : SectionFault) → (f ≢ section_faults.Memory → module_of part.bytes ≡ Err f) → (q : Refusal) → of_section f ≡ failures.Refused q → ModuleCause r others arguments part q
unread_caused r others arguments part section_faults.Memory h q e = absurd cc
unread_caused r others arguments part section_faults.NotModule h q e = unread q (ap (λ (x : Result CoreModule SectionFault). lifted x) (h (λ m. cc)) ∙ ap Err e)
unread_caused r others arguments part (section_faults.Section place) h q e = unread q (ap (λ (x : Result CoreModule SectionFault). lifted x) (h (λ m. cc)) ∙ ap Err e)
unread_caused r others arguments part section_faults.PackageBinary h q e = unread q (ap (λ (x : Result CoreModule SectionFault). lifted x) (h (λ m. cc)) ∙ ap Err e)

no_both : {A E : Type 0} (r : Result A E) (x : A) (e : E) → r ≡ Ok x → r ≡ Err e → ⊥
no_both r x e a b = absurd cc

no_module_cause : (r : Resolved) (others : OtherModules) (arguments : Arguments) (part : Part Bindgen) (core : CoreModule) → module_of part.bytes ≡ Ok core → ((f : Refusal) → RolesCause r others arguments part core f → ⊥) → (f : Refusal) → ModuleCause r others arguments part f → ⊥
no_module_cause r others arguments part core is h f (unread q e) = no_both (lifted (module_of part.bytes)) core _ (ap (λ (x : Result CoreModule SectionFault). lifted x) is) e
no_module_cause r others arguments part core is h f (as_core other q e c) = h f (subst (λ (x : CoreModule). RolesCause r others arguments part x f) (same_ok (module_of part.bytes) other core e is) c)

pub module_caused : (r : Resolved) (others : OtherModules) (arguments : Arguments) (part : Part Bindgen) (core : CoreModule) (answer : Result ModuleParts Failure) → module_of part.bytes ≡ Ok core
    → IfErr answer (λ e. (f : Refusal) → e ≡ failures.Refused f → RolesCause r others arguments part core f) → IfErr answer (λ e. (f : Refusal) → e ≡ failures.Refused f → ModuleCause r others arguments part f)
module_caused r others arguments part core (Ok p) is h = tt
module_caused r others arguments part core (Err e) is h = λ f k. as_core core f is (h f k)

pub module_refused : (r : Resolved) (others : OtherModules) (arguments : Arguments) (part : Part Bindgen) (core : CoreModule) (answer : Result ModuleParts Failure) → module_of part.bytes ≡ Ok core
    → (IsOk answer → (f : Refusal) → RolesCause r others arguments part core f → ⊥) → IsOk answer → (f : Refusal) → ModuleCause r others arguments part f → ⊥
module_refused r others arguments part core answer is h ok = no_module_cause r others arguments part core is (h ok)

-- ---- the world of the modules

no_world_cause : (r : Resolved) (main : Part Bindgen) (adapters : Adapters) (p : WorldParts) → world_parts r main adapters ≡ Ok p → ((f : Refusal) → PartsCause r (reach_of adapters) main adapters f → ⊥) → ((f : Refusal) → WholeCause p f → ⊥)
    → (f : Refusal) → WorldCause r main adapters f → ⊥
no_world_cause r main adapters p is parts whole f (of_parts q c) = parts f c
no_world_cause r main adapters p is parts whole f (of_whole other q e c) = whole f (subst (λ (x : WorldParts). WholeCause x f) (same_ok (world_parts r main adapters) other p e is) c)

pub world_caused : (r : Resolved) (main : Part Bindgen) (adapters : Adapters) (p : WorldParts) (answer : Result ComponentWorld Failure) → world_parts r main adapters ≡ Ok p
    → IfErr answer (λ e. (f : Refusal) → e ≡ failures.Refused f → WholeCause p f) → IfErr answer (λ e. (f : Refusal) → e ≡ failures.Refused f → WorldCause r main adapters f)
world_caused r main adapters p (Ok w) is h = tt
world_caused r main adapters p (Err e) is h = λ f k. of_whole p f is (h f k)

pub world_refused : (r : Resolved) (main : Part Bindgen) (adapters : Adapters) (p : WorldParts) (answer : Result ComponentWorld Failure) → world_parts r main adapters ≡ Ok p → ((f : Refusal) → PartsCause r (reach_of adapters) main adapters f → ⊥)
    → (IsOk answer → (f : Refusal) → WholeCause p f → ⊥) → IsOk answer → (f : Refusal) → WorldCause r main adapters f → ⊥
world_refused r main adapters p answer is parts h ok = no_world_cause r main adapters p is parts (h ok)

-- where the modules are given what they import, and nothing is left out, there is a world of them
no_whole_cause : (p : WorldParts) → ((f : Refusal) → LinkCause p f → ⊥) → ((f : Refusal) → IsLeftOut p f → ⊥) → (f : Refusal) → WholeCause p f → ⊥
no_whole_cause p links whole f (unlinked q c) = links f c
no_whole_cause p links whole f (not_yet q c) = whole f c

pub left_out_caused : (p : WorldParts) (answer : Result ComponentWorld Failure) → IfErr answer (λ e. (f : Refusal) → e ≡ failures.Refused f → IsLeftOut p f) → IfErr answer (λ e. (f : Refusal) → e ≡ failures.Refused f → WholeCause p f)
left_out_caused p (Ok w) h = tt
left_out_caused p (Err e) h = λ f k. not_yet f (h f k)

pub whole_refused : (p : WorldParts) (answer : Result ComponentWorld Failure) → ((f : Refusal) → LinkCause p f → ⊥) → (IsOk answer → (f : Refusal) → IsLeftOut p f → ⊥) → IsOk answer → (f : Refusal) → WholeCause p f → ⊥
whole_refused p answer links h ok = no_whole_cause p links (h ok)

-- ---- the whole

pub is_prepared : (g : Gathered Bindgen) (r : Resolved) (w : ComponentWorld) (t : ⊤) → adapters_pass g.options.realloc_via_memory_grow g.adapters ≡ Ok t
    → combined g.options.merge_imports_based_on_semver g.combined.wit ≡ Ok r → preparing_if r g.main g.adapters ≡ Ok w → preparing g ≡ Ok w
unfolding preparing
is_prepared g r w t a j p =
    ap (λ (x : Result ⊤ Failure). x >>= λ _. combined g.options.merge_imports_based_on_semver g.combined.wit >>= λ r. preparing_if r g.main g.adapters) a
    ∙ ap (λ (x : Result Resolved Failure). x >>= λ r. preparing_if r g.main g.adapters) j ∙ p

pub no_cause : (g : Gathered Bindgen) (r : Resolved) (t : ⊤) → adapters_pass g.options.realloc_via_memory_grow g.adapters ≡ Ok t → combined g.options.merge_imports_based_on_semver g.combined.wit ≡ Ok r
    → ((f : PlainFault) → CombinedCause g.options.merge_imports_based_on_semver g.combined.wit f → ⊥)
    → ((p : Part Bindgen) → g.main ≡ Some p → (f : Refusal) → WorldCause r p g.adapters f → ⊥)
    → (f : PlainFault) → PrepareCause g f → ⊥
no_cause g r t a j jn mn f (grows x on c none) = none_grows g t a x on c none
no_cause g r t a j jn mn f (of_combined fault c) = jn f c
no_cause g r t a j jn mn f (of_world other main fault is main_is c) =
    mn main main_is fault (subst (λ (x : Resolved). WorldCause x main g.adapters fault) (same_ok (combined g.options.merge_imports_based_on_semver g.combined.wit) other r is j) c)

-- ---- what the calls return

no_part : {A : Type 0} (o : Option A) → o ≡ None → IsSome o → ⊥
no_part None is there = absurd cc
no_part (Some x) is there = absurd cc

pub all_caused : (g : Gathered Bindgen) (r : Resolved) (answer : Result ComponentWorld Failure) → combined g.options.merge_imports_based_on_semver g.combined.wit ≡ Ok r → IsSome g.main
    → IfErr answer (λ e. (f : Refusal) → e ≡ failures.Refused f → (p : Part Bindgen) → g.main ≡ Some p → WorldCause r p g.adapters f) → IfErr answer (λ e. e ≢ failures.Memory → PrepareCause g (flat e))
all_caused g r (Ok w) is there h = tt
all_caused g r (Err failures.Memory) is there h = λ other. absurd (other refl)
all_caused g r (Err (failures.Refused f)) is there h = λ other. by g.main refl (h f refl)
  where
    by : (o : Option (Part Bindgen)) → g.main ≡ o → ((p : Part Bindgen) → g.main ≡ Some p → WorldCause r p g.adapters f) → PrepareCause g (flat_refusal f)
    by None none k = absurd (no_part g.main none there)
    by (Some p) some k = of_world r p f is some (k p some)
