-- Each import is from an instance that is known by its name.
use Rattle.std.proofs.Common.{◌≡◌, ℕ, Bool, true, false, List, [], ◌∷◌, ◌++◌, IsSome, is_some, if◌then◌else◌, refl, sym, subst}
use Rattle.std.specs.List.{AllByRecursion}
use Rattle.std.specs.Str.{bytes_eq}
use Rattle.comp_lists.specs.Found.{found}
use Rattle.comp_lists.specs.Tables.{with_first}
use Rattle.comp_lists.proofs.Lists.{AllByRecursion-weaker, AllByRecursion-push}
use Rattle.comp_lists.proofs.Lookups.{found-pushed, IsSome-found-append}
use Rattle.core_bytes.specs.declared.entity.EntityType.{EntityType}
use Rattle.core_bytes.specs.declared.entry.Import.{Import}
use Rattle.fixup_modules.specs.declared.instances.ImportedInstance.{ImportedInstance}
use Rattle.fixup_modules.specs.Instances.{instance_name}
use Rattle.fixup_modules.specs.Imports.{Imported, has_import, with_import, entry_of}
use Rattle.fixup_modules.specs.Laws.{AreFromInstances, ImportsAreFromInstances}
use Rattle.fixup_modules.proofs.Named.{earlier, grown}

abbrev Named : List ℕ × ImportedInstance → Type 0
Named p = p.0 ≡ instance_name p.1

-- ---- a table with one more instance, unless its name has one

named_first : (table : List (List ℕ × ImportedInstance)) (instance : ImportedInstance) → AllByRecursion Named table → AllByRecursion Named (with_first bytes_eq table (instance_name instance) instance)
named_first table instance h = by (is_some (found (instance_name instance) table))
  where
    by : (b : Bool) → AllByRecursion Named (if b then table else table ++ (instance_name instance, instance) ∷ [])
    by true = h
    by false = AllByRecursion-push Named table (instance_name instance, instance) h refl

found_still : (table : List (List ℕ × ImportedInstance)) (instance : ImportedInstance) (name : List ℕ) → IsSome (found name table) → IsSome (found name (with_first bytes_eq table (instance_name instance) instance))
found_still table instance name h = by (is_some (found (instance_name instance) table))
  where
    by : (b : Bool) → IsSome (found name (if b then table else table ++ (instance_name instance, instance) ∷ []))
    by true = h
    by false = IsSome-found-append name table ((instance_name instance, instance) ∷ []) h

found_now : (table : List (List ℕ × ImportedInstance)) (instance : ImportedInstance) → IsSome (found (instance_name instance) (with_first bytes_eq table (instance_name instance) instance))
found_now table instance = by (is_some (found (instance_name instance) table)) refl
  where
    by : (b : Bool) → is_some (found (instance_name instance) table) ≡ b → IsSome (found (instance_name instance) (if b then table else table ++ (instance_name instance, instance) ∷ []))
    by true e = e
    by false e = found-pushed (instance_name instance) instance table

from_grown : (m : Imported) (instance : ImportedInstance) (field : List ℕ) (item : EntityType) → AreFromInstances m → AreFromInstances (record { instances = with_first bytes_eq m.instances (instance_name instance) instance; entries = m.entries ++ entry_of instance field item ∷ [] })
from_grown m instance field item h = record {
  named = named_first m.instances instance h.named;
  from =
      AllByRecursion-push (λ (i : Import). IsSome (found i.module_name (with_first bytes_eq m.instances (instance_name instance) instance))) m.entries (entry_of instance field item)
      (AllByRecursion-weaker (λ (i : Import) e. found_still m.instances instance i.module_name e) m.entries h.from) (found_now m.instances instance);
}

one_more : (m : Imported) (instance : ImportedInstance) (field : List ℕ) (item : EntityType) → AreFromInstances m → AreFromInstances (with_import m instance field item)
one_more m instance field item h = by (has_import m instance field) refl
  where
    by : (b : Bool) → has_import m instance field ≡ b → AreFromInstances (with_import m instance field item)
    by true e = subst AreFromInstances (sym (earlier m instance field item e)) h
    by false e = subst AreFromInstances (sym (grown m instance field item e)) (from_grown m instance field item h)

pub imports_are_from_instances : ImportsAreFromInstances
imports_are_from_instances = record { none = record { named = tt; from = tt }; one_more = one_more }
