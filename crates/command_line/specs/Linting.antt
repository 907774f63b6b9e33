-- The warnings of a module and of adapters, printed on standard output. (The program's own; the warnings are those of
-- `module_warnings`, which also says why they are not known.)
use Rattle.std.specs.Prelude.{◌≡◌, ◌⊎◌, ℕ, List, ⊤, Option, Result, Ok, Err}
use Rattle.std.specs.Result.{IsErrAnd}
use Rattle.fitted_modules.specs.declared.modules.Modules.{Modules}
use Rattle.module_warnings.specs.Linting.{listed, all_warnings, AreRead, IsCaused}
use Rattle.module_warnings.specs.declared.fault.LintFault.TheVariants as lints
use Rattle.name_warnings.specs.Lines.{shown}
use Rattle.command_line.specs.Faults.{no_memory}
use Rattle.command_line.specs.Files.{FilesRead}
use Rattle.command_line.specs.Messages.{PrintsWarnings}
use Rattle.command_line.specs.declared.adapters.Adapter.{Adapter}
use Rattle.command_line.specs.declared.fault.RunFault.{RunFault}
use Rattle.command_line.specs.declared.fault.RunFault.TheVariants as faults
use Rattle.command_line.specs.declared.store.Event.{Event}

-- the warnings of modules that are all read are printed
pub record PrintsFound {F : Type 0} (m : Modules) (before after : Option (List ℕ)) (r : Result ⊤ (RunFault F)) : Type 0 where
  pub read : AreRead (listed m)
  pub printed : PrintsWarnings (shown (all_warnings m)) before after r

-- out of memory, or why they are not known
abbrev pub IsLintFault : {F : Type 0} → Modules → RunFault F → Type 0
IsLintFault m (faults.Lint lints.Memory) = ⊥
IsLintFault m (faults.Lint f) = IsCaused (listed m) f
IsLintFault m f = f ≡ no_memory

-- the warnings of modules are printed; or nothing is, and this is why
abbrev pub Lints : {F : Type 0} → Modules → Option (List ℕ) → Option (List ℕ) → Result ⊤ (RunFault F) → Type 0
Lints m before after r = PrintsFound m before after r ⊎ (IsErrAnd r (IsLintFault m) × (after ≡ before))

-- the same once they were read from files; or they were not
abbrev pub LintsRead : {F : Type 0} → Result Modules (RunFault F) → Option (List ℕ) → Option (List ℕ) → Result ⊤ (RunFault F) → Type 0
LintsRead (Ok m) before after r = Lints m before after r
LintsRead (Err f) before after r = (r ≡ Err f) × (after ≡ before)

-- What was read, and how the run ended: MAIN and then the adapters are read, each once, in the order of the arguments, and their
-- warnings are printed, or nothing.
pub record Linted {F : Type 0} (main : List ℕ) (adapters : List Adapter) (es : List Event) (before after : Option (List ℕ)) (r : Result ⊤ (RunFault F)) : Type 0 where
  pub read : Result Modules (RunFault F)
  pub are_read : FilesRead main adapters es read
  pub lints : LintsRead read before after r
