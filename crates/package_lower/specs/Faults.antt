-- Faults of this layer, and those of the layers below as this one's. (This project's own.)
use Rattle.std.specs.Prelude.{◌≡◌, ◌≢◌, ℕ, List, Bool, true, false, Result, Ok, Err}
use Rattle.core_sections.specs.declared.fault.SectionFault.{SectionFault}
use Rattle.json_paths.specs.declared.fault.Failure.{Failure as RecordFailure}
use Rattle.record_faults.specs.declared.fault.Failure.{Failure as PlainFailure}
use Rattle.record_faults.specs.declared.fault.Failure.TheVariants as plain_failures
use Rattle.record_faults.specs.declared.fault.PlainFault.TheVariants as plain_faults
use Rattle.record_faults.specs.Faults.{of_section, of_record, flat_refusal}
use Rattle.package_lower.specs.declared.fault.Failure.{Failure}
use Rattle.package_lower.specs.declared.fault.Failure.TheVariants as failures
use Rattle.package_lower.specs.declared.fault.Refusal.TheVariants as refusals
use Rattle.package_lower.specs.declared.fault.LowerFault.{LowerFault}
use Rattle.package_lower.specs.declared.fault.LowerFault.TheVariants as faults

infixl 10 ◌>>=◌
abbrev pub ◌>>=◌ : {A B : Type 0} → Result A Failure → (A → Result B Failure) → Result B Failure
(Ok x) >>= f = f x
(Err e) >>= f = Err e

-- What a function returned, as its view, is what a definition gives, unless it ran out of memory.
abbrev pub Gives : {X Y : Type 0} → (X → Y) → Result X Failure → Result Y Failure → Type 0
Gives view (Ok x) read = read ≡ Ok (view x)
Gives view (Err e) read = e ≢ failures.Memory → read ≡ Err e

abbrev pub of_plain : PlainFailure → Failure
of_plain plain_failures.Memory = failures.Memory
of_plain (plain_failures.Refused r) = failures.Refused (refusals.Plain r)

-- the results of the layers below, with their faults as those of this layer
abbrev pub lifted : {A : Type 0} → Result A SectionFault → Result A Failure
lifted (Ok x) = Ok x
lifted (Err e) = Err (of_plain (of_section e))

abbrev pub read : {A : Type 0} → Result A RecordFailure → Result A Failure
read (Ok x) = Ok x
read (Err e) = Err (of_plain (of_record e))

-- the fault that callers see
abbrev pub flat : Failure → LowerFault
flat failures.Memory = faults.Plain plain_faults.Memory
flat (failures.Refused (refusals.Plain r)) = faults.Plain (flat_refusal r)
flat (failures.Refused (refusals.Package section fault)) = faults.Package section fault
flat (failures.Refused (refusals.SeveralMeanings name)) = faults.SeveralMeanings name
