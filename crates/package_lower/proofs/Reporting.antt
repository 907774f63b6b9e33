-- Faults that a `?` returns, as those of this layer.
use Rattle.std.proofs.Common.{◌≡◌, ℕ, List, Bool, true, false, true≢false, Result, Ok, Err, refl, sym, ap, subst, ◌∙◌}
use Rattle.std.specs.Prelude.{◌≢◌, IfErr, IsOk}
use Rattle.std.specs.Result.{IsErrAnd}
use Rattle.record_faults.specs.declared.fault.Failure.{Failure as PlainFailure}
use Rattle.record_faults.specs.declared.fault.Failure.TheVariants as plain_failures
use Rattle.record_faults.specs.declared.fault.PlainFault.{PlainFault}
use Rattle.record_faults.specs.Faults.{flat as flat_plain}
use Rattle.package_lower.specs.declared.fault.Failure.{Failure}
use Rattle.package_lower.specs.declared.fault.Failure.TheVariants as failures
use Rattle.package_lower.specs.declared.fault.LowerFault.{LowerFault}
use Rattle.package_lower.specs.declared.fault.LowerFault.TheVariants as faults
use Rattle.package_lower.specs.Faults.{flat}
use Rattle.package_lower.specs.Layer.{is_memory, by_plain}

-- a fault of the steps that every lower layer has: what holds of the failure holds of the fault that is made of it
pub plainly_reported : {A : Type 0} (P : PlainFault → Type 0) (r : Result A LowerFault) (d : PlainFailure) → IsErrAnd r (λ e. e ≡ faults.Plain (flat_plain d)) → (d ≢ plain_failures.Memory → P (flat_plain d))
    → IfErr r (λ f. is_memory f ≡ false → by_plain P f)
plainly_reported P (Ok x) d is h = tt
plainly_reported P (Err e) d is h = subst (λ (f : LowerFault). is_memory f ≡ false → by_plain P f) (sym is) (by d h)
  where
    by : (d : PlainFailure) → (d ≢ plain_failures.Memory → P (flat_plain d)) → is_memory (faults.Plain (flat_plain d)) ≡ false → P (flat_plain d)
    by plain_failures.Memory h other = absurd (true≢false other)
    by (plain_failures.Refused f) h other = h (λ m. cc)

-- where no plain fault is right, no fault is
pub plainly_none : (P : PlainFault → Type 0) → ((f : PlainFault) → P f → ⊥) → (f : LowerFault) → by_plain P f → ⊥
plainly_none P h (faults.Plain f) c = h f c
plainly_none P h (faults.Package n fault) c = c
plainly_none P h (faults.SeveralMeanings name) c = c

-- what holds of a failure holds of the fault that is made of it
pub reported : {A : Type 0} (P : LowerFault → Type 0) (r : Result A LowerFault) (d : Failure) → IsErrAnd r (λ e. e ≡ flat d) → (d ≢ failures.Memory → P (flat d)) → IfErr r (λ f. is_memory f ≡ false → P f)
reported P (Ok x) d is h = tt
reported P (Err e) d is h = subst (λ (f : LowerFault). is_memory f ≡ false → P f) (sym is) (by d h)
  where
    by : (d : Failure) → (d ≢ failures.Memory → P (flat d)) → is_memory (flat d) ≡ false → P (flat d)
    by failures.Memory h other = absurd (true≢false other)
    by (failures.Refused r) h other = h (λ m. cc)
