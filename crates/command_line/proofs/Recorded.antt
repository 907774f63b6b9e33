-- A module with its record, step by step.
use Rattle.std.proofs.Common.{◌≡◌, ◌+◌, ℕ, Bool, true, false, List, [], ◌∷◌, ◌++◌, Result, Ok, Err, refl, sym, ap, subst, append-nil, arith}
use Rattle.std.specs.Prelude.{⊤}
use Rattle.std.specs.Result.{IsErrAnd}
use Rattle.package_lower.specs.Causes.{DecodeCause}
use Rattle.package_lower.specs.Layer.{decoded}
use Rattle.package_lower.specs.declared.fault.LowerFault.{LowerFault}
use Rattle.package_lower.specs.declared.lower.PackageLower.{PackageLower}
use Rattle.record_texts.specs.Records.{has_one_encoding}
use Rattle.recorded_modules.specs.Recorded.{IsRecorded, RecordingCause}
use Rattle.recorded_modules.specs.declared.fault.RecordingFault.{RecordingFault}
use Rattle.recorded_modules.specs.declared.fault.RecordingFault.TheVariants as recordings
use Rattle.command_line.specs.Events.{device_faults}
use Rattle.command_line.specs.Faults.{of_recording, reported_fault, reported_faults}
use Rattle.command_line.specs.Recording.{IsRecordedWhole, IsRecordingFault, IsRecordOf, RecordedFrom, Recorded}
use Rattle.command_line.specs.declared.fault.RunFault.{RunFault}
use Rattle.command_line.specs.declared.fault.RunFault.TheVariants as faults
use Rattle.command_line.specs.declared.store.Event.{Event}
use Rattle.command_line.proofs.FilesRead.{failed_as, reported_read}
use Rattle.command_line.proofs.Supplying.{faults_both, reported_put}

abbrev fresh : PackageLower
fresh = record { reject_legacy_names = false }

abbrev rejects : PackageLower → Bool
rejects lower = lower.reject_legacy_names

-- the module has one with its record
pub one_recorded : (lower : PackageLower) (given made recorded : List ℕ) → lower ≡ fresh → recorded ≡ made → IsRecorded lower.reject_legacy_names given made →
    ((f : LowerFault) → ¬ DecodeCause lower.reject_legacy_names given f) → has_one_encoding (decoded lower.reject_legacy_names given).1.roles ≡ true →
    IsRecordedWhole given recorded
one_recorded lower given made recorded new e h k n = record {
  is = subst (λ (x : List ℕ). IsRecorded false given x) (sym e) (subst (λ (b : Bool). IsRecorded b given made) (ap rejects new) h);
  clear = subst (λ (b : Bool). (f : LowerFault) → ¬ DecodeCause b given f) (ap rejects new) k;
  one_encoding = subst (λ (b : Bool). has_one_encoding (decoded b given).1.roles ≡ true) (ap rejects new) n;
}

cause_of : (F : Type 0) (given : List ℕ) (f : RecordingFault) → RecordingCause false given f → IsRecordingFault {F = F} given (of_recording f)
cause_of F given recordings.Memory h = refl
cause_of F given (recordings.Decode f) h = h
cause_of F given recordings.SeveralEncodings h = h
cause_of F given (recordings.TooMany n) h = h

module _ {F : Type 0} where
  -- it has none
  pub none_recorded : (lower : PackageLower) (given : List ℕ) (f : RecordingFault) (r : RunFault F) → lower ≡ fresh → r ≡ of_recording f → RecordingCause lower.reject_legacy_names given f →
      IsRecordOf {F = F} given (Err r)
  none_recorded lower given f r new e h =
      subst (λ (x : RunFault F). IsRecordingFault given x) (sym e) (cause_of F given f (subst (λ (b : Bool). RecordingCause b given f) (ap rejects new) h))

  -- nothing is put
  pub none_put : (out file : List ℕ) (es : List Event) (f : RunFault F) (r : Result ⊤ (RunFault F)) → IsErrAnd r (λ y. y ≡ f) → RecordedFrom file es (Err f) → Recorded out file es r
  none_put out file es f r ends h =
      record { reads = es; puts = []; in_order = sym (append-nil es); recorded = Err f; made = h; is_put = (refl, failed_as r f ends) }

  -- ---- refusals of the device

  none_of_recording : (given : List ℕ) (f : RunFault F) → IsRecordingFault given f → 0 ≡ reported_fault f
  none_of_recording given (faults.Record f) h = refl
  none_of_recording given (faults.Fit f) h = refl
  none_of_recording given (faults.Encode f) h = refl
  none_of_recording given faults.Usage h = refl
  none_of_recording given (faults.Read name) h = absurd (cc)
  none_of_recording given (faults.Write name) h = absurd (cc)
  none_of_recording given faults.Out h = refl
  none_of_recording given faults.Closed h = refl
  none_of_recording given (faults.Lint f) h = refl
  none_of_recording given faults.Warned h = refl
  none_of_recording given (faults.Check f) h = refl

  reported_later : (bytes : List ℕ) (more : List Event) (r : Result (List ℕ) (RunFault F)) → (more ≡ []) × IsRecordOf bytes r → device_faults more ≡ reported_faults r
  reported_later bytes more (Ok x) h = ap device_faults h.0
  reported_later bytes more (Err f) h = omega (arith, ap device_faults h.0, none_of_recording bytes f h.1)

  -- each is reported
  pub reported_recorded : (out file : List ℕ) (es : List Event) (r : Result ⊤ (RunFault F)) → Recorded out file es r → device_faults es ≡ reported_faults r
  reported_recorded out file es r h =
      let read : device_faults h.reads ≡ reported_faults h.recorded = reported_read file _ h.reads h.recorded reported_later h.made in
      omega (arith, ap device_faults h.in_order, faults_both h.reads h.puts, read, reported_put out h.recorded h.puts r h.is_put)
