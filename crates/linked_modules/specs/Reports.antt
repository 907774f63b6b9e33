-- The refusals of what modules import from each other. (This project's own.)
use Rattle.std.specs.Prelude.{ℕ, List}
use Rattle.record_faults.specs.declared.fault.Failure.{Failure}
use Rattle.record_faults.specs.declared.fault.Failure.TheVariants as failures
use Rattle.record_faults.specs.declared.fault.Refusal.TheVariants as refusals

abbrev pub missing : List ℕ → List ℕ → Failure
missing from field = failures.Refused (refusals.RoleMissing from field)

abbrev pub unfit : List ℕ → Failure
unfit field = failures.Refused (refusals.CoreType field)
