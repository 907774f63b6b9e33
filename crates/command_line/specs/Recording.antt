-- From a module's file to that of the module with its record: what is read, what is put, and when
-- neither. (The program's own. What is put of what was read is said by `recorded_modules`.)
use Rattle.std.specs.Prelude.{◌≡◌, ℕ, false, true, List, [], ◌++◌, ⊤, Result, Ok, Err}
use Rattle.package_lower.specs.Causes.{DecodeCause}
use Rattle.package_lower.specs.Layer.{decoded}
use Rattle.package_lower.specs.declared.fault.LowerFault.{LowerFault}
use Rattle.record_texts.specs.Records.{has_one_encoding}
use Rattle.recorded_modules.specs.Recorded.{IsRecorded, RecordingCause}
use Rattle.recorded_modules.specs.declared.fault.RecordingFault.TheVariants as recordings
use Rattle.command_line.specs.Faults.{no_memory}
use Rattle.command_line.specs.Files.{AfterRead}
use Rattle.command_line.specs.Making.{IsPut}
use Rattle.command_line.specs.declared.fault.RunFault.{RunFault}
use Rattle.command_line.specs.declared.fault.RunFault.TheVariants as faults
use Rattle.command_line.specs.declared.store.Event.{Event}

-- a module with its record; what was given has no cause of a refusal
pub record IsRecordedWhole (given recorded : List ℕ) : Type 0 where
  pub is : IsRecorded false given recorded
  pub clear : (f : LowerFault) → ¬ DecodeCause false given f
  pub one_encoding : has_one_encoding (decoded false given).1.roles ≡ true

-- The fault of a module with its record that can't be made: out of memory, or its cause.
abbrev pub IsRecordingFault : {F : Type 0} → List ℕ → RunFault F → Type 0
IsRecordingFault given (faults.Record recordings.Memory) = ⊥
IsRecordingFault given (faults.Record f) = RecordingCause false given f
IsRecordingFault given f = f ≡ no_memory

-- the module with its record, or why there is none
abbrev pub IsRecordOf : {F : Type 0} → List ℕ → Result (List ℕ) (RunFault F) → Type 0
IsRecordOf given (Ok recorded) = IsRecordedWhole given recorded
IsRecordOf given (Err f) = IsRecordingFault given f

module _ {F : Type 0} where
  -- the same of the module in a file, which is read once and is all that is read
  abbrev pub RecordedFrom : List ℕ → List Event → Result (List ℕ) (RunFault F) → Type 0
  RecordedFrom file es r = AfterRead file (λ bytes more ended. (more ≡ []) × IsRecordOf bytes ended) es r

  -- What was read and put, and how the run ended: the module is read, once; OUT is put, once and
  -- last, where the module has one with its record, which is what is put; nothing else is read or put.
  pub record Recorded (out file : List ℕ) (es : List Event) (r : Result ⊤ (RunFault F)) : Type 0 where
    pub reads : List Event
    pub puts : List Event
    pub in_order : es ≡ reads ++ puts
    pub recorded : Result (List ℕ) (RunFault F)
    pub made : RecordedFrom file reads recorded
    pub is_put : IsPut out recorded puts r
