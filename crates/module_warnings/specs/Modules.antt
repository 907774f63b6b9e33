-- The warnings of a core module, by what it says of its component: in sections that describe it, or by the names of its core imports
-- and core exports. (This project's own; the rules are those of the component model.)
use Rattle.std.specs.Prelude.{◌≡◌, ◌==◌, ◌&&◌, ℕ, Bool, not, nat_lt, List, [], ◌∷◌, ◌++◌, length, Err}
use Rattle.std.specs.Result.{result_unwrap_or}
use Rattle.core_sections.specs.Entries.{module_of, no_entries}
use Rattle.core_sections.specs.declared.core_module.CoreModule.{CoreModule}
use Rattle.core_sections.specs.declared.fault.SectionFault.{SectionFault}
use Rattle.core_sections.specs.declared.fault.SectionFault.TheVariants as section_faults
use Rattle.name_warnings.specs.Warnings.{warned}
use Rattle.name_warnings.specs.declared.warning.Warning.{Warning}
use Rattle.name_warnings.specs.declared.warning.WarningKind.TheVariants as kinds
use Rattle.package_lower.specs.Causes.{DecodeCause}
use Rattle.package_lower.specs.Layer.{decoded}
use Rattle.record_faults.specs.declared.fault.PlainFault.{PlainFault}
use Rattle.record_faults.specs.declared.fault.PlainFault.TheVariants as plain_faults
use Rattle.record_merge.specs.declared.bindgen.Bindgen.{Bindgen}
use Rattle.world_warnings.specs.Worlds.{warnings_of}
use Rattle.module_warnings.specs.Roles.{role_warnings}
use Rattle.module_warnings.specs.declared.fault.LintFault.{LintFault}
use Rattle.module_warnings.specs.declared.fault.LintFault.TheVariants as faults

-- nothing describes the component of the module, which imports nothing: the component is empty
abbrev pub is_bare : Bool → CoreModule → Bool
is_bare described core = not described && (length core.imports == 0)

-- the warnings of a module, behind this path
abbrev pub module_warnings : List (List ℕ) → Bool → Bindgen → CoreModule → List Warning
module_warnings path described said core = warned (is_bare described core) kinds.NoRecord path ++ (warnings_of path said.wit ++ role_warnings core path said.roles)

-- the core imports and core exports of what is left of a module; none, where they can't be read
abbrev pub entries_of : List ℕ → CoreModule
entries_of rest = result_unwrap_or (module_of rest) no_entries

-- The warnings of a module, behind its name, by what it says and what is left of it. It is described where sections are left out
-- of that. By `rejects_older`, names of the older form have no role.
abbrev pub warnings_in : Bool → List ℕ → List ℕ → List Warning
warnings_in rejects_older name given =
    module_warnings (name ∷ []) (nat_lt (length (decoded rejects_older given).0) (length given)) (decoded rejects_older given).1 (entries_of (decoded rejects_older given).0)

-- ---- why the warnings are not known

abbrev pub of_core : SectionFault → LintFault
of_core section_faults.Memory = faults.Memory
of_core section_faults.NotModule = faults.Core plain_faults.NotModule
of_core (section_faults.Section place) = faults.Core (plain_faults.Section place)
of_core section_faults.PackageBinary = faults.Core plain_faults.PackageBinary

-- the entries of what is left can't be read, for this reason
pub record IsUnread (rest : List ℕ) (f : PlainFault) : Type 0 where
  pub fault : SectionFault
  pub unread : module_of rest ≡ Err fault
  pub is : of_core fault ≡ faults.Core f

-- they can be read
pub record IsRead (rest : List ℕ) : Type 0 where
  pub clear : (f : PlainFault) → ¬ IsUnread rest f

abbrev pub IsCoreFault : List ℕ → LintFault → Type 0
IsCoreFault rest faults.Memory = Unit {0}
IsCoreFault rest (faults.Decode f) = ⊥
IsCoreFault rest (faults.Core f) = IsUnread rest f

-- what describes the component can't be read, or the entries of what is left can't
abbrev pub LintRefusal : Bool → List ℕ → LintFault → Type 0
LintRefusal rejects_older given faults.Memory = ⊥
LintRefusal rejects_older given (faults.Decode f) = DecodeCause rejects_older given f
LintRefusal rejects_older given (faults.Core f) = IsUnread (decoded rejects_older given).0 f

pub record NoRefusal (rejects_older : Bool) (given : List ℕ) : Type 0 where
  pub clear : (f : LintFault) → ¬ LintRefusal rejects_older given f

-- out of memory, or one of these
abbrev pub LintCause : Bool → List ℕ → LintFault → Type 0
LintCause rejects_older given faults.Memory = Unit {0}
LintCause rejects_older given (faults.Decode f) = DecodeCause rejects_older given f
LintCause rejects_older given (faults.Core f) = IsUnread (decoded rejects_older given).0 f
