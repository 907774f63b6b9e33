-- The entries of a module, or why they can't be read.
use Rattle.std.proofs.Common.{◌≡◌, ℕ, Bool, List, Result, Ok, Err, refl, sym, subst}
use Rattle.std.specs.Prelude.{◌≢◌}
use Rattle.core_sections.specs.Entries.{module_of}
use Rattle.core_sections.specs.declared.core_module.CoreModule.{CoreModule}
use Rattle.core_sections.specs.declared.fault.SectionFault.{SectionFault}
use Rattle.core_sections.specs.declared.fault.SectionFault.TheVariants as section_faults
use Rattle.package_lower.specs.Causes.{DecodeCause}
use Rattle.package_lower.specs.Layer.{decoded}
use Rattle.package_lower.specs.declared.fault.LowerFault.{LowerFault}
use Rattle.module_warnings.specs.Modules.{entries_of, of_core, IsRead, IsCoreFault, LintRefusal, NoRefusal}
use Rattle.module_warnings.specs.declared.fault.LintFault.{LintFault}
use Rattle.module_warnings.specs.declared.fault.LintFault.TheVariants as faults

caused : (rest : List ℕ) (s : SectionFault) → (s ≢ section_faults.Memory → module_of rest ≡ Err s) → IsCoreFault rest (of_core s)
caused rest section_faults.Memory h = tt
caused rest section_faults.NotModule h = record { fault = section_faults.NotModule; unread = h (λ m. cc); is = refl }
caused rest (section_faults.Section place) h = record { fault = section_faults.Section place; unread = h (λ m. cc); is = refl }
caused rest section_faults.PackageBinary h = record { fault = section_faults.PackageBinary; unread = h (λ m. cc); is = refl }

-- the fault that is reported has its cause
pub core_unread : (rest : List ℕ) (s : SectionFault) (e : LintFault) → e ≡ of_core s → (s ≢ section_faults.Memory → module_of rest ≡ Err s) → IsCoreFault rest e
core_unread rest s e is h = subst (λ (f : LintFault). IsCoreFault rest f) (sym is) (caused rest s h)

pub entries_read : (rest : List ℕ) (core : CoreModule) → module_of rest ≡ Ok core → core ≡ entries_of rest
entries_read rest core h = rw h refl

read_and_unread : (read : Result CoreModule SectionFault) (core : CoreModule) (s : SectionFault) → read ≡ Ok core → read ≡ Err s → ⊥
read_and_unread (Ok m) core s h k = cc
read_and_unread (Err f) core s h k = cc

-- entries that were read have no such cause
pub never_unread : (rest : List ℕ) (core : CoreModule) → module_of rest ≡ Ok core → IsRead rest
never_unread rest core h = record { clear = λ f u. read_and_unread (module_of rest) core u.fault h u.unread }

refused_never : (rejects_older : Bool) (given : List ℕ) → ((f : LowerFault) → ¬ DecodeCause rejects_older given f) → IsRead (decoded rejects_older given).0 → (f : LintFault) → ¬ LintRefusal rejects_older given f
refused_never rejects_older given clear read faults.Memory = λ h. h
refused_never rejects_older given clear read (faults.Decode f) = clear f
refused_never rejects_older given clear read (faults.Core f) = read.clear f

-- nor has a module whose sections were read, too
pub none_refused : (rejects_older : Bool) (given rest : List ℕ) → rest ≡ (decoded rejects_older given).0 → ((f : LowerFault) → ¬ DecodeCause rejects_older given f) → IsRead rest → NoRefusal rejects_older given
none_refused rejects_older given rest is clear read = record { clear = refused_never rejects_older given clear (subst (λ (r : List ℕ). IsRead r) is read) }
