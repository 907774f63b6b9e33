-- Faults that a `?` returns.
use Rattle.std.proofs.Common.{◌≡◌, false, true≢false, Result, Ok, Err, sym, subst}
use Rattle.std.specs.Prelude.{◌≢◌, IfErr}
use Rattle.std.specs.Result.{IsErrAnd}
use Rattle.record_faults.specs.declared.fault.Failure.{Failure}
use Rattle.record_faults.specs.declared.fault.Failure.TheVariants as failures
use Rattle.record_faults.specs.declared.fault.PlainFault.{PlainFault}
use Rattle.record_faults.specs.Faults.{flat}
use Rattle.gathered_worlds.specs.Layer.{is_memory}

-- what holds of the failure holds of the fault that is made of it
pub reported : {A : Type 0} (P : PlainFault → Type 0) (r : Result A PlainFault) (d : Failure) → IsErrAnd r (λ e. e ≡ flat d) → (is_memory (flat d) ≡ false → P (flat d)) → IfErr r (λ f. is_memory f ≡ false → P f)
reported P (Ok x) d h k = tt
reported P (Err e) d h k = subst (λ (f : PlainFault). is_memory f ≡ false → P f) (sym h) k

-- the same of a failure that has its cause unless it is out of memory
pub reported_unless_memory : {A : Type 0} (P : PlainFault → Type 0) (r : Result A PlainFault) (d : Failure) → IsErrAnd r (λ e. e ≡ flat d) → (d ≢ failures.Memory → P (flat d)) → IfErr r (λ f. is_memory f ≡ false → P f)
reported_unless_memory P r d is h = reported P r d is (by d h)
  where
    by : (d : Failure) → (d ≢ failures.Memory → P (flat d)) → is_memory (flat d) ≡ false → P (flat d)
    by failures.Memory h other = absurd (true≢false other)
    by (failures.Refused f) h other = h (λ m. cc)
