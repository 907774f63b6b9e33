-- Main's memory: that its alias is a memory, what its alias adds, and when main has none.
use Rattle.std.proofs.Common.{◌≡◌, ℕ, List, Option, Some, None, refl, sym, ap, subst, IsSome}
use Rattle.std.proofs.lemmas.Option.{none-some, same_Some}
use Rattle.std.specs.Option.{option_map, option_or}
use Rattle.comp_bytes.specs.declared.def.Def.{Def}
use Rattle.comp_bytes.specs.declared.def.Def.TheVariants as defs
use Rattle.comp_bytes.specs.declared.def.Item.TheVariants as items
use Rattle.comp_bytes.specs.declared.types.Alias.TheVariants as aliases
use Rattle.comp_items.specs.Items.{MayAdd}
use Rattle.comp_roles.specs.Lookups.{first_memory}
use Rattle.comp_roles.specs.declared.offered.ExternType.TheVariants as externs
use Rattle.comp_terms.specs.Generated.{shims_number}
use Rattle.comp_worlds.specs.Offered.{shared_memory, memory_of_main}
use Rattle.comp_terms.specs.Planned.{memory_from, main_memory}
use Rattle.comp_terms.specs.Rules.{Grows}
use Rattle.comp_terms.specs.Terms.{CoreExport, IsInstanceOf}
use Rattle.comp_worlds.specs.Worlds.{IsWorld}
use Rattle.comp_worlds.specs.declared.world.ComponentWorld.{ComponentWorld}
use Rattle.core_types.specs.declared.types.MemoryType.{MemoryType}
use Rattle.standard_kinds.specs.declared.kinds.ExportKind.TheVariants as kinds
use Rattle.core_options.specs.MainOptions.{IsMemoryIf, exported_memory}

-- an export that is main's memory is a memory
pub memory_kind : (w : ComponentWorld) (e : CoreExport) → main_memory w ≡ Some e → e.kind ≡ kinds.Memory
memory_kind w e h = by (shared_memory w) (first_memory w.main.exports.exports) h
  where
    by : (imported : Option MemoryType) (exported : Option (List ℕ × MemoryType)) → memory_from w imported exported ≡ Some e → e.kind ≡ kinds.Memory
    by (Some type) exported h = ap (λ (x : CoreExport). x.kind) (sym (same_Some (record { of = shims_number w; kind = kinds.Memory; name = _ }) e h))
    by None (Some (name, type)) h = ap (λ (x : CoreExport). x.kind) (sym (same_Some (record { of = 0; kind = kinds.Memory; name = name }) e h))
    by None None h = absurd (none-some e h)

-- where there is an alias of it, main has one
pub memory_there : (w : ComponentWorld) (ds : List Def) (index : ℕ) → IsMemoryIf ds (main_memory w) (Some index) → IsSome (memory_of_main w.main)
memory_there w ds index h = by (shared_memory w) (first_memory w.main.exports.exports) h
  where
    by : (imported : Option MemoryType) (exported : Option (List ℕ × MemoryType)) → IsMemoryIf ds (memory_from w imported exported) (Some index) → IsSome (option_or imported (option_map (λ e. e.1) exported))
    by (Some type) exported h = refl
    by None (Some (name, type)) h = refl
    by None None h = absurd h

-- where there is none, it has none
pub memory_missing : (w : ComponentWorld) (ds : List Def) → IsMemoryIf ds (main_memory w) None → memory_of_main w.main ≡ None
memory_missing w ds h = by (shared_memory w) (first_memory w.main.exports.exports) h
  where
    by : (imported : Option MemoryType) (exported : Option (List ℕ × MemoryType)) → IsMemoryIf ds (memory_from w imported exported) None → option_or imported (option_map (λ e. e.1) exported) ≡ None
    by (Some type) exported h = absurd h
    by None (Some (name, type)) h = absurd h
    by None None h = refl

-- where main imports none, it is the one that main exports
pub memory_exported : (w : ComponentWorld) (ds : List Def) (index : Option ℕ) → shared_memory w ≡ None → IsMemoryIf ds (exported_memory w) index → IsMemoryIf ds (main_memory w) index
memory_exported w ds index none h = subst (λ o. IsMemoryIf ds (memory_from w o (first_memory w.main.exports.exports)) index) (sym none) h

-- an export of main of this name that is a memory
abbrev pub memory_export : List ℕ → CoreExport
memory_export name = record { of = 0; kind = kinds.Memory; name = name }

pub exported_as : (w : ComponentWorld) (name : List ℕ) → option_map (λ e. e.0) (first_memory w.main.exports.exports) ≡ Some name → exported_memory w ≡ Some (memory_export name)
exported_as w name h = by (first_memory w.main.exports.exports) h
  where
    by : (o : Option (List ℕ × MemoryType)) → option_map (λ e. e.0) o ≡ Some name → memory_from w None o ≡ Some (memory_export name)
    by None h = absurd (none-some name h)
    by (Some (n, t)) h = ap (λ x. Some (memory_export x)) (same_Some n name h)
