-- Warnings that are printed, or why there are none.
use Rattle.std.proofs.Common.{◌≡◌, ◌∙◌, ◌==◌, ℕ, Bool, true, false, List, length, Option, Result, Ok, Err, refl, sym, ap, subst, inl, inr}
use Rattle.std.specs.Prelude.{⊤}
use Rattle.std.specs.Result.{IsErrAnd}
use Rattle.fitted_modules.specs.declared.modules.Modules.{Modules}
use Rattle.module_warnings.specs.Linting.{listed, all_warnings, AreRead, IsCaused}
use Rattle.module_warnings.specs.declared.fault.LintFault.{LintFault}
use Rattle.module_warnings.specs.declared.fault.LintFault.TheVariants as lints
use Rattle.name_warnings.specs.Lines.{shown}
use Rattle.command_line.specs.Events.{device_faults}
use Rattle.command_line.specs.Faults.{is_whole, run_warned, of_linting, reported_fault, reported_faults}
use Rattle.command_line.specs.Files.{FilesRead}
use Rattle.command_line.specs.Linting.{IsLintFault, Lints, LintsRead, Linted}
use Rattle.command_line.specs.Messages.{Puts, PrintsWarnings}
use Rattle.command_line.specs.declared.adapters.Adapter.{Adapter}
use Rattle.command_line.specs.declared.fault.RunFault.{RunFault}
use Rattle.command_line.specs.declared.fault.RunFault.TheVariants as faults
use Rattle.command_line.specs.declared.fault.Written.{Written}
use Rattle.command_line.specs.declared.fault.Written.TheVariants as written
use Rattle.command_line.specs.declared.store.Event.{Event}
use Rattle.command_line.proofs.FilesRead.{failed_as, reported_files}

ended : (F : Type 0) (text : List ℕ) (empty : Bool) (w : Written) (before after : Option (List ℕ)) → empty ≡ (length text == 0) → Puts before after text (is_whole w) →
    PrintsWarnings {F = F} text before after (run_warned empty w)
ended F text true written.Whole before after n h = (sym n, h)
ended F text false written.Whole before after n h = (sym n, h)
ended F text empty written.Refused before after n h = h
ended F text empty written.Closed before after n h = h

module _ {F : Type 0} where
  -- a text was put
  pub warned_as : (text : List ℕ) (empty : Bool) (w : Written) (before after : Option (List ℕ)) (r : Result ⊤ (RunFault F)) → empty ≡ (length text == 0) → Puts before after text (is_whole w) → r ≡ run_warned empty w →
      PrintsWarnings text before after r
  warned_as text empty w before after r n h e = subst (λ (x : Result ⊤ (RunFault F)). PrintsWarnings text before after x) (sym e) (ended F text empty w before after n h)

  -- the warnings are printed
  pub warnings_shown : (m : Modules) (text printed : List ℕ) (before after : Option (List ℕ)) (r : Result ⊤ (RunFault F)) → printed ≡ text → text ≡ shown (all_warnings m) → AreRead (listed m) → PrintsWarnings printed before after r →
      Lints m before after r
  warnings_shown m text printed before after r e h k p =
      inl (record { read = k; printed = subst (λ (t : List ℕ). PrintsWarnings t before after r) (e ∙ h) p })

cause_of : (F : Type 0) (m : Modules) (f : LintFault) → IsCaused (listed m) f → IsLintFault {F = F} m (of_linting f)
cause_of F m lints.Memory h = refl
cause_of F m (lints.Decode f) h = h
cause_of F m (lints.Core f) h = h

module _ {F : Type 0} where
  -- they are not known
  pub none_shown : (m : Modules) (out : Option (List ℕ)) (f : LintFault) (r : RunFault F) → r ≡ of_linting f → IsCaused (listed m) f → Lints m out out (Err r)
  none_shown m out f r e h = inr (subst (λ (x : RunFault F). IsLintFault m x) (sym e) (cause_of F m f h), refl)

  -- the files are not read
  pub none_linted : (main : List ℕ) (adapters : List Adapter) (es : List Event) (out : Option (List ℕ)) (f : RunFault F) (r : Result ⊤ (RunFault F)) → IsErrAnd r (λ y. y ≡ f) → FilesRead {F = F} main adapters es (Err f) →
      Linted main adapters es out out r
  none_linted main adapters es out f r ends h = record { read = Err f; are_read = h; lints = (failed_as r f ends, refl) }

  -- ---- refusals of the device

  none_of_warnings : (text : List ℕ) (before after : Option (List ℕ)) (r : Result ⊤ (RunFault F)) → PrintsWarnings text before after r → 0 ≡ reported_faults r
  none_of_warnings text before after (Ok x) h = refl
  none_of_warnings text before after (Err faults.Usage) h = absurd h
  none_of_warnings text before after (Err (faults.Read name)) h = absurd h
  none_of_warnings text before after (Err (faults.Write name)) h = absurd h
  none_of_warnings text before after (Err faults.Out) h = refl
  none_of_warnings text before after (Err faults.Closed) h = refl
  none_of_warnings text before after (Err faults.Warned) h = refl
  none_of_warnings text before after (Err (faults.Check f)) h = absurd h
  none_of_warnings text before after (Err (faults.Fit f)) h = absurd h
  none_of_warnings text before after (Err (faults.Record f)) h = absurd h
  none_of_warnings text before after (Err (faults.Lint f)) h = absurd h
  none_of_warnings text before after (Err (faults.Encode f)) h = absurd h

  none_of_linting : (m : Modules) (f : RunFault F) → IsLintFault m f → 0 ≡ reported_fault f
  none_of_linting m (faults.Lint f) h = refl
  none_of_linting m (faults.Fit f) h = refl
  none_of_linting m (faults.Record f) h = refl
  none_of_linting m (faults.Encode f) h = refl
  none_of_linting m faults.Usage h = refl
  none_of_linting m (faults.Read name) h = absurd (cc)
  none_of_linting m (faults.Write name) h = absurd (cc)
  none_of_linting m faults.Out h = refl
  none_of_linting m faults.Closed h = refl
  none_of_linting m faults.Warned h = refl
  none_of_linting m (faults.Check f) h = refl

  none_unless_shown : (m : Modules) (r : Result ⊤ (RunFault F)) → IsErrAnd r (IsLintFault m) → 0 ≡ reported_faults r
  none_unless_shown m (Ok x) h = absurd h
  none_unless_shown m (Err f) h = none_of_linting m f h

  none_of_modules : (m : Modules) (before after : Option (List ℕ)) (r : Result ⊤ (RunFault F)) → Lints m before after r → 0 ≡ reported_faults r
  none_of_modules m before after r (inl h) = none_of_warnings (shown (all_warnings m)) before after r h.printed
  none_of_modules m before after r (inr h) = none_unless_shown m r h.0

  reported_read : (read : Result Modules (RunFault F)) (before after : Option (List ℕ)) (r : Result ⊤ (RunFault F)) → LintsRead read before after r → reported_faults read ≡ reported_faults r
  reported_read (Ok m) before after r h = none_of_modules m before after r h
  reported_read (Err f) before after r h = sym (ap (λ (x : Result ⊤ (RunFault F)). reported_faults x) h.0)

  -- each is reported
  pub reported_linted : (main : List ℕ) (adapters : List Adapter) (es : List Event) (before after : Option (List ℕ)) (r : Result ⊤ (RunFault F)) → Linted main adapters es before after r → device_faults es ≡ reported_faults r
  reported_linted main adapters es before after r h = reported_files main adapters es h.read h.are_read ∙ reported_read h.read before after r h.lints
