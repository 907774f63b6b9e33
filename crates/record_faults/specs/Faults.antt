-- Faults of this layer, and those of the layer below as this one's. (This project's own.)
use Rattle.std.specs.Prelude.{◌≡◌, ◌≢◌, Result, Ok, Err}
use Rattle.core_sections.specs.declared.fault.SectionFault.{SectionFault}
use Rattle.core_sections.specs.declared.fault.SectionFault.TheVariants as section_faults
use Rattle.json_paths.specs.declared.fault.Failure.{Failure as RecordFailure}
use Rattle.json_paths.specs.declared.fault.Failure.TheVariants as record_failures
use Rattle.json_paths.specs.declared.fault.Refusal.{Refusal as RecordRefusal}
use Rattle.json_paths.specs.declared.fault.Refusal.TheVariants as record_refusals
use Rattle.record_faults.specs.declared.fault.Failure.{Failure}
use Rattle.record_faults.specs.declared.fault.Failure.TheVariants as failures
use Rattle.record_faults.specs.declared.fault.Refusal.{Refusal}
use Rattle.record_faults.specs.declared.fault.Refusal.TheVariants as refusals
use Rattle.record_faults.specs.declared.fault.PlainFault.{PlainFault}
use Rattle.record_faults.specs.declared.fault.PlainFault.TheVariants as faults

infixl 10 ◌>>=◌
abbrev pub ◌>>=◌ : {A B : Type 0} → Result A Failure → (A → Result B Failure) → Result B Failure
(Ok x) >>= f = f x
(Err e) >>= f = Err e

-- What a function returned, as its view, is what a definition gives, unless it ran out of memory.
abbrev pub Gives : {X Y : Type 0} → (X → Y) → Result X Failure → Result Y Failure → Type 0
Gives view (Ok x) read = read ≡ Ok (view x)
Gives view (Err e) read = e ≢ failures.Memory → read ≡ Err e

abbrev pub of_section : SectionFault → Failure
of_section section_faults.Memory = failures.Memory
of_section section_faults.NotModule = failures.Refused refusals.NotModule
of_section (section_faults.Section place) = failures.Refused (refusals.Section place)
of_section section_faults.PackageBinary = failures.Refused refusals.PackageBinary

-- the result of the layer below, with its fault as one of this layer
abbrev pub lifted : {A : Type 0} → Result A SectionFault → Result A Failure
lifted (Ok x) = Ok x
lifted (Err e) = Err (of_section e)

abbrev pub of_record_refusal : RecordRefusal → Refusal
of_record_refusal record_refusals.Json = refusals.Json
of_record_refusal (record_refusals.Record path) = refusals.Record path
of_record_refusal (record_refusals.LeftOut what) = refusals.LeftOut what
of_record_refusal (record_refusals.MergeConflict name) = refusals.MergeConflict name

abbrev pub of_record : RecordFailure → Failure
of_record record_failures.Memory = failures.Memory
of_record (record_failures.Refused r) = failures.Refused (of_record_refusal r)

-- the result of reading a record, with its failure as one of this layer
abbrev pub read : {A : Type 0} → Result A RecordFailure → Result A Failure
read (Ok x) = Ok x
read (Err e) = Err (of_record e)

abbrev pub flat_refusal : Refusal → PlainFault
flat_refusal refusals.NotModule = faults.NotModule
flat_refusal (refusals.Section place) = faults.Section place
flat_refusal refusals.PackageBinary = faults.PackageBinary
flat_refusal refusals.Json = faults.Json
flat_refusal (refusals.Record path) = faults.Record path
flat_refusal (refusals.MergeConflict name) = faults.MergeConflict name
flat_refusal (refusals.LeftOut what) = faults.LeftOut what
flat_refusal (refusals.RoleMissing m f) = faults.RoleMissing m f
flat_refusal (refusals.ExportMissing function) = faults.ExportMissing function
flat_refusal (refusals.CoreType name) = faults.CoreType name
flat_refusal (refusals.ImportTwice m f) = faults.ImportTwice m f
flat_refusal refusals.MemoryGrow = faults.MemoryGrow

-- the fault that callers see
abbrev pub flat : Failure → PlainFault
flat failures.Memory = faults.Memory
flat (failures.Refused r) = flat_refusal r
