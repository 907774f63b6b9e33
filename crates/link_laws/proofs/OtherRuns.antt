-- Worked examples: lists that run to their end, and aren't linked. A module of shims is never
-- filled, though nothing uses it; the fixup fills a table of main; the memory in place of the one
-- that main imports is larger than that.
use Rattle.comp_links.specs.Naming.{own_names}
use Rattle.std.proofs.Common.{◌≡◌, ◌∙◌, ℕ, zero, suc, Bool, true, false, true≢false, List, [], ◌∷◌, map, refl, sym, ap, subst, Option, Some, None, arith}
use Rattle.std.proofs.lemmas.Option.{same_Some}
use Rattle.std.specs.Prelude.{codes}
use Rattle.comp_bytes.proofs.Worked.{plain, f, function, root, core}
use Rattle.standard_kinds.specs.declared.kinds.ExportKind.TheVariants as kinds
use Rattle.comp_bytes.specs.declared.types.Alias.TheVariants as aliases
use Rattle.comp_bytes.specs.declared.types.Description.TheVariants as descriptions
use Rattle.comp_bytes.specs.declared.def.Item.TheVariants as items
use Rattle.comp_bytes.specs.declared.def.Def.TheVariants as defs
use Rattle.core_types.specs.Core.{core_preamble}
use Rattle.core_types.specs.declared.types.MemoryType.{MemoryType}
use Rattle.core_bytes.specs.declared.entity.EntityType.TheVariants as entities
use Rattle.core_bytes.specs.declared.section.Section.{Section}
use Rattle.core_bytes.specs.declared.section.Section.TheVariants as sections
use Rattle.core_bytes.proofs.Worked as given
use Rattle.core_runs.specs.Bodies.{table_of_shims, table_fill}
use Rattle.core_runs.specs.Instances.{empty_table}
use Rattle.core_runs.specs.Values.{Value}
use Rattle.core_runs.specs.Execution.{exec, acts}
use Rattle.wit_data.specs.declared.ids.TypeId.{TypeId}
use Rattle.comp_roles.specs.declared.imports.Import.TheVariants as imports
use Rattle.comp_roles.specs.declared.imports.ImportInstance.TheVariants as instances
use Rattle.comp_roles.specs.declared.offered.ExternType.TheVariants as externs
use Rattle.comp_roles.specs.declared.offered.ImportType.{ImportType}
use Rattle.comp_worlds.specs.declared.world.ComponentWorld.{ComponentWorld}
use Rattle.comp_worlds.specs.declared.world.ValidatedModule.{ValidatedModule}
use Rattle.comp_trees.specs.Trees.{Resource}
use Rattle.comp_links.specs.Targets.{MainMemory}
use Rattle.comp_runs.specs.Store.{Thing}
use Rattle.comp_runs.specs.Machine.{Machine}
use Rattle.comp_bytes.specs.declared.space.Space.TheVariants as spaces
use Rattle.link_laws.specs.Composition.{GeneratedModules}
use Rattle.link_laws.specs.Meeting.{Meets, IsMainMemory}
use Rattle.link_laws.specs.Linking.{outcome, IsShim, IsServed, IsUntouched, IsLinked}
use Rattle.link_laws.proofs.Stores.{main_module}
use Rattle.link_laws.proofs.NamedItem.{traps_next, trapped_in, never_filled}
use Rattle.link_laws.proofs.Worked.{root_world, plain_core, inline_instance, machine_of, made, h}
use Rattle.link_laws.proofs.WorkedShims.{world as shims_world, shims, shims_bytes, shims_instance}

-- ---- slots that are left empty

-- main is given the lowerings of both functions, and there are two shims that nothing uses
abbrev with_shims : GeneratedModules
with_shims = record { shims = Some shims; fixup = None }

abbrev unfilled : Machine
unfilled = machine_of (outcome shims_world with_shims (map defs.Item (
    function
    ∷ items.Import (plain f) (descriptions.Func 0)
    ∷ items.Import (plain h) (descriptions.Func 0)
    ∷ items.CoreModule core
    ∷ items.CoreModule shims_bytes
    ∷ items.CoreInstantiate 1 []
    ∷ items.Lower 0 []
    ∷ items.Lower 1 []
    ∷ inline_instance f 0 h 1
    ∷ items.CoreInstantiate 0 (record { name = root; instance = 1 } ∷ [])
    ∷ [])) made)

-- the first shim traps
quiet : (arguments : List Value) → trapped_in (acts unfilled.store.code 0 arguments (traps_next unfilled)) ≡ None
unfolding acts exec
quiet [] = refl
quiet (v ∷ vs) = refl

first_shim : IsShim shims_world unfilled 0
first_shim = record { instance = 0; made = shims_instance; name = given.zero_text; present = refl; of = refl; exported = (0, omega arith, refl); numbered = refl }

pub unfilled_is_not_linked : IsLinked own_names shims_world with_shims unfilled → ⊥
unfilled_is_not_linked l = never_filled unfilled 0 quiet (l.filled 0 first_shim)

-- ---- a table of main

abbrev t : List ℕ
t = 0x74 ∷ []

-- main imports f, and exports a table with one slot
abbrev imports_f : ComponentWorld
imports_f = root_world core (f ∷ []) [] ((root, (f, f) ∷ []) ∷ []) []

abbrev main_of : ComponentWorld → ValidatedModule
main_of w = record w.main { offered = (t, externs.Table (table_of_shims 1)) ∷ [] }

abbrev table_world : ComponentWorld
table_world = record imports_f { main = main_of imports_f }

-- the fixup fills a table that it imports
abbrev fixup : List Section
fixup =
    sections.Types (plain_core ∷ [])
    ∷ sections.Imports (
    record { module_name = given.actual; field = given.zero_text; entity = entities.Function 0 }
    ∷ record { module_name = given.shim; field = given.imports_text; entity = entities.Table (table_of_shims 1) }
    ∷ [])
    ∷ sections.Elements (table_fill (0 ∷ []) ∷ [])
    ∷ []

abbrev with_fixup : GeneratedModules
with_fixup = record { shims = None; fixup = Some fixup }

-- it is given that of main
abbrev written : Machine
written = machine_of (outcome table_world with_fixup (map defs.Item (
    function
    ∷ items.Import (plain f) (descriptions.Func 0)
    ∷ items.CoreModule core
    ∷ items.CoreModule core_preamble
    ∷ items.Lower 0 []
    ∷ items.CoreExports (record { name = f; kind = kinds.Func; index = 0 } ∷ [])
    ∷ items.CoreInstantiate 0 (record { name = root; instance = 0 } ∷ [])
    ∷ items.Alias (aliases.CoreExport kinds.Table 1 t)
    ∷ items.CoreExports (record { name = given.zero_text; kind = kinds.Func; index = 0 } ∷ [])
    ∷ items.CoreExports (record { name = given.imports_text; kind = kinds.Table; index = 0 } ∷ [])
    ∷ items.CoreInstantiate 1 (record { name = given.actual; instance = 2 } ∷ record { name = given.shim; instance = 3 } ∷ [])
    ∷ [])) made)

abbrev is_filled : List (Option ℕ) → Bool
is_filled (Some address ∷ slots) = true
is_filled slots = false

never_empty : (size : ℕ) → is_filled (empty_table size) ≡ false
never_empty zero = refl
never_empty (suc n) = refl

filled_table : IsUntouched written 0 → ⊥
filled_table u = true≢false (ap is_filled (same_Some (Some 0 ∷ []) (empty_table u.size) u.empty) ∙ never_empty u.size)

pub written_is_not_linked : IsLinked own_names table_world with_fixup written → ⊥
written_is_not_linked l = filled_table ((l.tables 0 _ (main_module table_world) refl refl).0 refl)

-- ---- the memory that main imports

abbrev pages : ℕ → MemoryType
pages n = record { minimum = n; maximum = None }

abbrev env : List ℕ
env = codes "env"

abbrev memory : List ℕ
memory = codes "memory"

-- main imports a memory of one page
abbrev memory_import : ImportType
memory_import = record { module_name = env; field = memory; ty = externs.Memory (pages 1) }

abbrev imports_memory : ComponentWorld → ValidatedModule
imports_memory w = record w.main { imports = record { modules = (env, instances.Names ((memory, imports.MainModuleMemory (pages 1)) ∷ [])) ∷ [] }; imported = memory_import ∷ [] }

abbrev nothing_imported : ComponentWorld
nothing_imported = root_world core [] [] [] []

abbrev memory_world : ComponentWorld
memory_world = record nothing_imported { main = imports_memory nothing_imported }

-- the module in its place defines one of two pages
abbrev two_pages : GeneratedModules
two_pages = record {
  shims = Some (sections.Memories (pages 2 ∷ []) ∷ sections.Exports (record { name = codes "$memory"; kind = kinds.Memory; index = 0 } ∷ []) ∷ []);
  fixup = None;
}

abbrev larger : Machine
larger = machine_of (outcome memory_world two_pages (map defs.Item (
    items.CoreModule core
    ∷ items.CoreModule core_preamble
    ∷ items.CoreInstantiate 1 []
    ∷ items.Alias (aliases.CoreExport kinds.Memory 0 (codes "$memory"))
    ∷ items.CoreExports (record { name = memory; kind = kinds.Memory; index = 0 } ∷ [])
    ∷ items.CoreInstantiate 0 (record { name = env; instance = 1 } ∷ [])
    ∷ [])) made)

abbrev memory_at_0 : Thing
memory_at_0 = record { space = spaces.CoreMemory; address = 0 }

not_as_imported : (origins : TypeId → Resource) → IsServed memory_world larger origins (main_module memory_world) memory_at_0 memory_import → ⊥
not_as_imported origins s =
    let meets : IsMainMemory memory_world larger 0 = subst (Meets memory_world larger origins memory_at_0) (sym (same_Some MainMemory s.target s.said)) s.meets in
    let no : 2 ≡ 1 = ap (λ (m : MemoryType). m.minimum) (same_Some (pages 2) (pages 1) meets.typed) in
    absurd (omega (arith, no))

pub larger_is_not_linked : IsLinked own_names memory_world two_pages larger → ⊥
larger_is_not_linked l = not_as_imported l.origins (l.imports.each 1 _ _ refl refl).0
