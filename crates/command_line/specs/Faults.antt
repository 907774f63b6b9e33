-- Why a run fails, and with which exit status. (The program's own.)
use Rattle.std.specs.Prelude.{ℕ, Bool, true, false, ◌&&◌, not, List, ⊤, Result, Ok, Err, if◌then◌else◌}
use Rattle.comp_check.specs.declared.fault.CheckFault.{CheckFault}
use Rattle.comp_check.specs.declared.fault.CheckFault.TheVariants as checks
use Rattle.comp_encoder.specs.declared.fault.EncodeFault.TheVariants as encode_faults
use Rattle.fitted_modules.specs.declared.fault.ModulesFault.{ModulesFault}
use Rattle.fitted_modules.specs.declared.fault.ModulesFault.TheVariants as fits
use Rattle.module_warnings.specs.declared.fault.LintFault.{LintFault}
use Rattle.module_warnings.specs.declared.fault.LintFault.TheVariants as lints
use Rattle.recorded_modules.specs.declared.fault.RecordingFault.{RecordingFault}
use Rattle.recorded_modules.specs.declared.fault.RecordingFault.TheVariants as recordings
use Rattle.command_line.specs.declared.store.StoreFault.{StoreFault}
use Rattle.command_line.specs.declared.store.StoreFault.TheVariants as store_faults
use Rattle.command_line.specs.declared.fault.RunFault.{RunFault}
use Rattle.command_line.specs.declared.fault.RunFault.TheVariants.{Usage, Read, Write, Out, Closed, Fit, Record, Lint, Warned, Encode, Check}
use Rattle.command_line.specs.declared.fault.Written.{Written}
use Rattle.command_line.specs.declared.fault.Written.TheVariants as written
use Rattle.std.specs.declared.io.ErrorKind.{ErrorKind}
use Rattle.std.specs.declared.io.ErrorKind.TheVariants as kinds

-- out of memory where a file is made, links or warnings are shown, or a code is explained
abbrev pub no_memory : {F : Type 0} → RunFault F
no_memory = Encode encode_faults.Memory

-- out of memory, by whether the definitions of a component are asked for
abbrev pub out_of_memory : {F : Type 0} → Bool → RunFault F
out_of_memory listing = if listing then Check checks.Memory else no_memory

abbrev pub of_read : {F : Type 0} → Bool → List ℕ → StoreFault → RunFault F
of_read listing name store_faults.Device = Read name
of_read listing name store_faults.Memory = out_of_memory listing

-- out of memory, or why modules can't be fitted
abbrev pub of_fit : {F : Type 0} → ModulesFault → RunFault F
of_fit fits.Memory = no_memory
of_fit f = Fit f

-- out of memory, or why a module with its record can't be made
abbrev pub of_recording : {F : Type 0} → RecordingFault → RunFault F
of_recording recordings.Memory = no_memory
of_recording f = Record f

-- out of memory, or why the warnings of modules are not known
abbrev pub of_linting : {F : Type 0} → LintFault → RunFault F
of_linting lints.Memory = no_memory
of_linting f = Lint f

-- out of memory, or why a component whose links are asked for can't be read
abbrev pub of_unread : {F : Type 0} → CheckFault → RunFault F
of_unread checks.Memory = no_memory
of_unread f = Check f

abbrev pub of_put : {F : Type 0} → List ℕ → StoreFault → RunFault F
of_put name store_faults.Device = Write name
of_put name store_faults.Memory = no_memory

-- how writing ends by an error of this kind
abbrev pub written_of : ErrorKind → Written
written_of kinds.BrokenPipe = written.Closed
written_of _ = written.Refused

abbrev pub is_whole : Written → Bool
is_whole written.Whole = true
is_whole _ = false

-- the end of a run that writes a text on standard output
abbrev pub run_written : {F : Type 0} → Written → Result ⊤ (RunFault F)
run_written written.Whole = Ok tt
run_written written.Refused = Err Out
run_written written.Closed = Err Closed

-- the end of a run that writes warnings on standard output, of which there may be none
abbrev pub run_warned : {F : Type 0} → Bool → Written → Result ⊤ (RunFault F)
run_warned empty w = if is_whole w && not empty then Err Warned else run_written w

-- 1 where the fault is a refusal of the device
abbrev pub reported_fault : {F : Type 0} → RunFault F → ℕ
reported_fault (Read name) = 1
reported_fault (Write name) = 1
reported_fault _ = 0

abbrev pub reported_faults : {V F : Type 0} → Result V (RunFault F) → ℕ
reported_faults (Ok x) = 0
reported_faults (Err f) = reported_fault f

-- the exit status
abbrev pub status_of : {F : Type 0} → Result ⊤ (RunFault F) → ℕ
status_of (Ok x) = 0
status_of (Err Usage) = 2
status_of (Err _) = 1
