-- The warnings of a main module and its adapters. (This project's own.)
use Rattle.std.specs.Prelude.{◌≡◌, ◌⊎◌, false, List, [], ◌∷◌, ◌++◌, ⊤, codes, Result, Ok, Err}
use Rattle.std.specs.List.{flat_map, AllByRecursion}
use Rattle.fitted_modules.specs.declared.modules.Modules.{Modules}
use Rattle.fitted_modules.specs.declared.modules.NamedModule.{NamedModule}
use Rattle.name_warnings.specs.declared.warning.Warning.{Warning}
use Rattle.module_warnings.specs.Modules.{warnings_in, LintCause, LintRefusal, NoRefusal}
use Rattle.module_warnings.specs.declared.fault.LintFault.{LintFault}
use Rattle.module_warnings.specs.declared.fault.LintFault.TheVariants as faults

-- the main module under this name, and the adapters under theirs
abbrev pub listed : Modules → List NamedModule
listed m = record { name = codes "main"; bytes = m.main } ∷ m.adapters

abbrev pub warnings_of : NamedModule → List Warning
warnings_of m = warnings_in false m.name m.bytes

-- the warnings of all of them
abbrev pub all_warnings : Modules → List Warning
all_warnings m = flat_map warnings_of (listed m)

-- all of them are read
pub record AreRead (ms : List NamedModule) : Type 0 where
  pub each : AllByRecursion (λ m. NoRefusal false m.bytes) ms

-- one of them isn't
abbrev pub AnyRefused : List NamedModule → LintFault → Type 0
AnyRefused [] f = ⊥
AnyRefused (m ∷ ms) f = LintRefusal false m.bytes f ⊎ AnyRefused ms f

-- out of memory, or one of them isn't read
abbrev pub IsCaused : List NamedModule → LintFault → Type 0
IsCaused ms faults.Memory = Unit {0}
IsCaused ms (faults.Decode f) = AnyRefused ms (faults.Decode f)
IsCaused ms (faults.Core f) = AnyRefused ms (faults.Core f)

-- ---- steps

-- these are the warnings of a module that is read
pub record IsFound (m : NamedModule) (found : List Warning) : Type 0 where
  pub is : found ≡ warnings_of m
  pub read : NoRefusal false m.bytes

abbrev pub FindsOne : NamedModule → Result (List Warning) LintFault → Type 0
FindsOne m (Ok found) = IsFound m found
FindsOne m (Err e) = LintCause false m.bytes e

-- these warnings were added, of a module that is read
pub record IsAdded (before after : List Warning) (m : NamedModule) : Type 0 where
  pub found : after ≡ before ++ warnings_of m
  pub read : NoRefusal false m.bytes

abbrev pub LintsOne : List Warning → List Warning → NamedModule → Result ⊤ LintFault → Type 0
LintsOne before after m (Ok x) = IsAdded before after m
LintsOne before after m (Err e) = LintCause false m.bytes e

pub record AreAdded (before after : List Warning) (ms : List NamedModule) : Type 0 where
  pub found : after ≡ before ++ flat_map warnings_of ms
  pub read : AreRead ms

abbrev pub LintsEach : List Warning → List Warning → List NamedModule → Result ⊤ LintFault → Type 0
LintsEach before after ms (Ok x) = AreAdded before after ms
LintsEach before after ms (Err e) = IsCaused ms e
