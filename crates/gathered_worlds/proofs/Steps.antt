-- Refusals that steps return, and those of merging.
use Rattle.std.proofs.Common.{◌≡◌, ℕ, List, Result, Ok, Err, refl, sym, subst}
use Rattle.std.specs.Prelude.{◌≢◌, IfErr}
use Rattle.std.specs.Result.{IsErrAnd}
use Rattle.json_paths.specs.declared.fault.Failure.{Failure as RecordFailure}
use Rattle.json_paths.specs.declared.fault.Failure.TheVariants as record_failures
use Rattle.record_merge.specs.Causes.{WorldConflict}
use Rattle.record_merge.specs.declared.bindgen.Bindgen.{Bindgen}
use Rattle.record_merge.specs.Tables.{conflict as conflict_of}
use Rattle.record_faults.specs.declared.fault.Failure.{Failure}
use Rattle.record_faults.specs.declared.fault.Failure.TheVariants as failures
use Rattle.record_faults.specs.declared.fault.PlainFault.{PlainFault}
use Rattle.record_faults.specs.Faults.{of_record, flat}
use Rattle.gathered_worlds.specs.Causes.{MergeCause, conflict_of_worlds}

-- ---- the steps, as calls return them

-- what holds of the failure holds of the one that a `?` makes of it
pub handed_out : {A : Type 0} (P : Failure → Type 0) (r : Result A Failure) (d : Failure) → IsErrAnd r (λ e. e ≡ d) → (d ≢ failures.Memory → P d) → IfErr r (λ e. e ≢ failures.Memory → P e)
handed_out P (Ok x) d is h = tt
handed_out P (Err e) d is h = subst (λ (x : Failure). x ≢ failures.Memory → P x) (sym is) h

-- ---- merging

pub merge_caused : (a b : Bindgen) (e : RecordFailure) → (e ≢ record_failures.Memory → (name : List ℕ) × (e ≡ conflict_of name) × WorldConflict a.wit b.wit name)
    → (of_record e ≢ failures.Memory) → MergeCause a b (flat (of_record e))
merge_caused a b record_failures.Memory h other = absurd (other refl)
merge_caused a b (record_failures.Refused r) h other =
    let c = h (λ m. cc) in
    subst (λ (x : RecordFailure). MergeCause a b (flat (of_record x))) (sym c.1) (conflict_of_worlds c.0 c.2)

pub merge_has_none : (a b : Bindgen) → ((name : List ℕ) → WorldConflict a.wit b.wit name → ⊥) → (f : PlainFault) → MergeCause a b f → ⊥
merge_has_none a b h f (conflict_of_worlds name c) = h name c
