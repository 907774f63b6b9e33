-- The arguments of the fixup's instance.
use Rattle.std.proofs.Common.{◌≡◌, ◌∙◌, ◌&&◌, ◌||◌, ℕ, Bool, true, false, List, [], ◌∷◌, refl, sym, ap, subst}
use Rattle.std.specs.Prelude.{codes}
use Rattle.std.specs.List.{AllByRecursion, list_any}
use Rattle.std.specs.Str.{bytes_eq}
use Rattle.comp_lists.specs.Tables.{with_first}
use Rattle.comp_lists.proofs.Lists.{AllByRecursion-push}
use Rattle.core_bytes.specs.declared.entity.EntityType.{EntityType}
use Rattle.core_bytes.specs.declared.entry.Import.{Import}
use Rattle.fixup_modules.specs.declared.instances.ImportedInstance.{ImportedInstance}
use Rattle.fixup_modules.specs.declared.instances.ImportedInstance.TheVariants as instances
use Rattle.fixup_modules.specs.Imports.{Imported, is_named, entry_of, has_import, with_import}
use Rattle.fixup_modules.specs.Fixups.{Fixup, nothing_fixed, with_shim, shim_target}
use Rattle.fixup_modules.specs.Sections.{table_name, shim_table, with_table}
use Rattle.fixup_modules.proofs.Named.{earlier, grown}
use Rattle.shim_plan.specs.declared.shims.Shim.{Shim}
use Rattle.world_shims.specs.WorldShims.{type_of_shim, fixup_with}

abbrev pub IsOfActual : Import → Type 0
IsOfActual i = i.module_name ≡ codes "actual"

-- something is imported, and all from `actual`
pub record OfActual (m : Imported) : Type 0 where
  pub instances : m.instances ≡ (codes "actual", instances.Actual) ∷ []
  pub entries : AllByRecursion IsOfActual m.entries

of_actual_more : (m : Imported) (name : List ℕ) (item : EntityType) → OfActual m → OfActual (with_import m instances.Actual name item)
of_actual_more m name item h = by (has_import m instances.Actual name) refl
  where
    by : (b : Bool) → has_import m instances.Actual name ≡ b → OfActual (with_import m instances.Actual name item)
    by true e = subst OfActual (sym (earlier m instances.Actual name item e)) h
    by false e = subst OfActual (sym (grown m instances.Actual name item e)) (record {
      instances = ap (λ (t : List (List ℕ × ImportedInstance)). with_first bytes_eq t (codes "actual") instances.Actual) h.instances;
      entries = AllByRecursion-push IsOfActual m.entries (entry_of instances.Actual name item) h.entries refl;
    })

of_actual_all : (f : Fixup) (shims : List Shim) → OfActual f.imported → OfActual (fixup_with f shims).imported
of_actual_all f [] h = h
of_actual_all f (s ∷ ss) h = of_actual_all (with_shim f s.name (type_of_shim s)) ss (of_actual_more f.imported s.name (shim_target f.types (type_of_shim s)) h)

pub of_actual : (s : Shim) (shims : List Shim) → OfActual (fixup_with nothing_fixed (s ∷ shims)).imported
of_actual s shims = of_actual_all (with_shim nothing_fixed s.name (type_of_shim s)) shims (record { instances = refl; entries = (refl, tt) })
