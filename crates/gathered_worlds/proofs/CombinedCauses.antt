-- When the worlds of all modules can't be merged and resolved.
use Rattle.std.proofs.Common.{arith, true≢false, ◌≡◌, Bool, List, [], ◌∷◌, ◌<◌, length, Result, Ok, Err, refl, sym, ap, subst, ◌∙◌}
use Rattle.std.specs.Prelude.{◌≢◌, get_or, IfOk, IfErr, IsOk}
use Rattle.std.specs.List.{AllByRecursion}
use Rattle.wit_data.specs.declared.worlds.World.{World}
use Rattle.world_values.specs.Items.{no_items}
use Rattle.record_faults.specs.declared.fault.Failure.{Failure}
use Rattle.record_faults.specs.declared.fault.Failure.TheVariants as failures
use Rattle.record_faults.specs.declared.fault.PlainFault.{PlainFault}
use Rattle.record_faults.specs.Faults.{◌>>=◌, read, of_record, flat}
use Rattle.json_paths.specs.declared.fault.Failure.{Failure as RecordFailure}
use Rattle.json_paths.specs.declared.fault.Failure.TheVariants as record_failures
use Rattle.record_values.specs.declared.world.Wit.{Wit}
use Rattle.record_versions.specs.declared.versions.MergedVersions.{MergedVersions}
use Rattle.record_versions.specs.MergedVersions.{merged_versions}
use Rattle.record_resolve.specs.declared.resolving.Resolved.{Resolved}
use Rattle.record_resolve.specs.Resolved.{resolved, AreNamed, IsWhole, IsRefused}
use Rattle.record_resolve.specs.OtherNames.{also_named}
use Rattle.gathered_worlds.specs.Preparing.{combined}
use Rattle.gathered_worlds.specs.Guarantees.{IsUsable, IsCombined}
use Rattle.gathered_worlds.specs.Causes.{CombinedCause, unmerged, unresolved, not_whole}

-- ---- causes

pub merging_caused : (merging : Bool) (w : Wit) (e : RecordFailure) → (e ≢ record_failures.Memory → merged_versions merging w ≡ Err e) → of_record e ≢ failures.Memory → CombinedCause merging w (flat (of_record e))
merging_caused merging w record_failures.Memory h other = absurd (other refl)
merging_caused merging w (record_failures.Refused r) h other = unmerged r (h (λ m. cc))

by_refusal : (merging : Bool) (w : Wit) (s : MergedVersions) (e : RecordFailure) (made : Result Resolved RecordFailure) → merged_versions merging w ≡ Ok s → resolved s.wit ≡ made → IsRefused made e → of_record e ≢ failures.Memory → CombinedCause merging w (flat (of_record e))
by_refusal merging w s record_failures.Memory made is made_is h other = absurd (other refl)
by_refusal merging w s (record_failures.Refused r) (Err f) is made_is h other = unresolved s r is (made_is ∙ ap Err (sym h))
by_refusal merging w s (record_failures.Refused r) (Ok x) is made_is h other =
    subst (λ (y : RecordFailure). CombinedCause merging w (flat (of_record y))) (sym h.0) (not_whole s x is made_is h.1)

pub resolving_caused : (merging : Bool) (w : Wit) (s : MergedVersions) (e : RecordFailure) → merged_versions merging w ≡ Ok s → (e ≢ record_failures.Memory → IsRefused (resolved s.wit) e) → of_record e ≢ failures.Memory → CombinedCause merging w (flat (of_record e))
resolving_caused merging w s e is h other = by_refusal merging w s e (resolved s.wit) is refl (h (λ m. other (ap of_record m))) other

-- ---- what was resolved

one_named : (ws : List World) → 0 < length ws → AllByRecursion AreNamed ws → AreNamed (get_or ws 0 no_items)
one_named [] h all = absurd (omega (arith, h))
one_named (w ∷ ws) h all = all.0

pub usable : (s : MergedVersions) (r : Resolved) → IsCombined s r → IsUsable r
usable s r j =
    let whole = j.is_whole in
    let same = ap (λ (x : Resolved). x.resolve) j.is in
    subst (λ (x : Resolved). IsUsable x) (sym j.is) (record { present = whole.present; sound = whole.sound; named = one_named j.plain.resolve.worlds whole.present whole.named; listed = whole.listed })

pub combined_is : (merging : Bool) (w : Wit) (s : MergedVersions) (r : Resolved) → merged_versions merging w ≡ Ok s → IsCombined s r → combined merging w ≡ Ok r
unfolding combined
combined_is merging w s r is j =
    ap (λ (x : Result MergedVersions RecordFailure). read x >>= λ s. read (resolved s.wit) >>= λ r. Ok (also_named s.renames r)) is
    ∙ ap (λ (x : Result Resolved RecordFailure). read x >>= λ r. Ok (also_named s.renames r)) j.is_resolved
    ∙ ap Ok (sym j.is)

same_ok : {A E : Type 0} (r : Result A E) (x y : A) → r ≡ Ok x → r ≡ Ok y → x ≡ y
same_ok r x y a b = cc

no_both : {A E : Type 0} (r : Result A E) (x : A) (e : E) → r ≡ Ok x → r ≡ Err e → ⊥
no_both r x e a b = absurd cc

pub no_cause : (merging : Bool) (w : Wit) (s : MergedVersions) (r : Resolved) → merged_versions merging w ≡ Ok s → IsCombined s r → (f : PlainFault) → CombinedCause merging w f → ⊥
no_cause merging w s r is j f (unmerged q e) = no_both (merged_versions merging w) s _ is e
no_cause merging w s r is j f (unresolved t q e k) =
    let same : t ≡ s = same_ok (merged_versions merging w) t s e is in
    no_both (resolved s.wit) j.plain _ j.is_resolved (subst (λ (x : MergedVersions). resolved x.wit ≡ Err (record_failures.Refused q)) same k)
no_cause merging w s r is j f (not_whole t x e k bad) =
    let same : t ≡ s = same_ok (merged_versions merging w) t s e is in
    let here : resolved s.wit ≡ Ok x = subst (λ (y : MergedVersions). resolved y.wit ≡ Ok x) same k in
    bad (subst (λ (y : Resolved). IsWhole y) (same_ok (resolved s.wit) j.plain x j.is_resolved here) j.is_whole)

-- ---- what the calls return

pub all_exact : (merging : Bool) (w : Wit) (s : MergedVersions) (r : Result Resolved Failure) → merged_versions merging w ≡ Ok s → IfOk r (IsCombined s) → IfOk r (λ x. combined merging w ≡ Ok x)
all_exact merging w s (Ok x) is j = combined_is merging w s x is j
all_exact merging w s (Err e) is j = tt

pub all_usable : (s : MergedVersions) (r : Result Resolved Failure) → IfOk r (IsCombined s) → IfOk r IsUsable
all_usable s (Ok x) j = usable s x j
all_usable s (Err e) j = tt

pub all_caused : (merging : Bool) (w : Wit) (s : MergedVersions) (r : Result Resolved Failure) → merged_versions merging w ≡ Ok s
    → IfErr r (λ e. e ≢ failures.Memory → (m : Bool) (v : Wit) → merged_versions m v ≡ Ok s → CombinedCause m v (flat e)) → IfErr r (λ e. e ≢ failures.Memory → CombinedCause merging w (flat e))
all_caused merging w s (Ok x) is h = tt
all_caused merging w s (Err e) is h = λ other. h other merging w is

pub all_refused : (merging : Bool) (w : Wit) (s : MergedVersions) (r : Result Resolved Failure) → merged_versions merging w ≡ Ok s → IfOk r (IsCombined s) → IsOk r → (f : PlainFault) → CombinedCause merging w f → ⊥
all_refused merging w s (Ok x) is j ok = no_cause merging w s x is j
all_refused merging w s (Err e) is j ok = absurd (true≢false (sym ok))
