-- A worked example: an adapter that imports the memory of main, and two functions from main as a
-- whole, and that exports a function of the world.
use Rattle.std.proofs.Common.{◌≡◌, ℕ, List, [], ◌∷◌, refl, false, Option, Some, None, map}
use Rattle.std.specs.Prelude.{codes}
use Rattle.comp_bytes.proofs.Worked.{plain, g, core, function}
use Rattle.standard_kinds.specs.declared.kinds.ExportKind.TheVariants as kinds
use Rattle.comp_bytes.specs.declared.space.Sort.TheVariants as sorts
use Rattle.comp_bytes.specs.declared.space.Space.TheVariants as spaces
use Rattle.comp_bytes.specs.declared.types.Alias.TheVariants as aliases
use Rattle.comp_bytes.specs.declared.def.Item.TheVariants as items
use Rattle.comp_bytes.specs.declared.def.Def.{Def}
use Rattle.comp_bytes.specs.declared.def.Def.TheVariants as defs
use Rattle.core_types.specs.Core.{core_preamble}
use Rattle.core_types.specs.declared.types.MemoryType.{MemoryType}
use Rattle.core_runs.specs.Store.{Opaque, Answer, Gives, Instantiated}
use Rattle.wit_data.specs.declared.functions.AbiVariant.TheVariants.{GuestExport}
use Rattle.wit_data.specs.declared.functions.Function.{Function}
use Rattle.wit_data.specs.declared.functions.FunctionKind.TheVariants.{Freestanding}
use Rattle.wit_data.specs.declared.worlds.WorldKey.TheVariants as keys
use Rattle.wit_data.specs.declared.worlds.WorldItem.TheVariants as world_items
use Rattle.comp_roles.specs.declared.imports.Import.TheVariants as imports
use Rattle.comp_roles.specs.declared.imports.ImportInstance.TheVariants as instances
use Rattle.comp_roles.specs.declared.libraries.MainOrAdapter.TheVariants as modules
use Rattle.comp_roles.specs.declared.exports.Export.TheVariants as exports
use Rattle.comp_roles.specs.declared.offered.ExternType.TheVariants as externs
use Rattle.comp_worlds.specs.WorldTables.{whole_of}
use Rattle.comp_worlds.specs.declared.world.ComponentWorld.{ComponentWorld}
use Rattle.comp_worlds.specs.declared.world.ValidatedModule.{ValidatedModule}
use Rattle.comp_worlds.specs.declared.world.WorldAdapter.{WorldAdapter}
use Rattle.comp_runs.specs.Store.{Thing, ExportedBy, Lifting, ModuleInstance}
use Rattle.comp_runs.specs.Machine.{Outcome, Done}
use Rattle.link_laws.specs.Linking.{outcome}
use Rattle.link_laws.proofs.Worked.{plain_tree, plain_core}
use Rattle.link_laws.proofs.Steps.{no_modules}
use Rattle.link_laws.proofs.Worked.{Ended, inline_instance, core_function, core_export, h, k, a}

-- ---- the world

abbrev memory_text : List ℕ
memory_text = codes "memory"

-- where the adapter imports the memory from, and the two functions
abbrev pub memories : List ℕ
memories = codes "env"

abbrev pub functions : List ℕ
functions = codes "main"

abbrev one_page : MemoryType
one_page = record { minimum = 1; maximum = None }

-- main imports nothing; it exports its memory, the function g of the world, and functions k and h of no role
abbrev main : ValidatedModule
main = record {
  bytes = core;
  imports = record { modules = [] };
  exports = record { exports = (memory_text, exports.Memory one_page) ∷ (g, exports.WorldFunc (keys.Name g) g GuestExport) ∷ [] };
  imported = [];
  offered = (memory_text, externs.Memory one_page) ∷ (g, externs.Func plain_core) ∷ (k, externs.Func plain_core) ∷ (h, externs.Func plain_core) ∷ [];
  metadata = record { import_encodings = []; export_encodings = [] };
}

-- the adapter imports the memory by its role, and k and g from all that main exports; it exports
-- the function h of the world
abbrev pub adapter : WorldAdapter
adapter = record {
  info = record {
    bytes = core_preamble;
    imports = record { modules = (memories, instances.Names ((memory_text, imports.MainModuleMemory one_page) ∷ [])) ∷ (functions, instances.Whole modules.Main) ∷ [] };
    exports = record { exports = (h, exports.WorldFunc (keys.Name h) h GuestExport) ∷ [] };
    imported =
        record { module_name = memories; field = memory_text; ty = externs.Memory one_page }
        ∷ record { module_name = functions; field = k; ty = externs.Func plain_core }
        ∷ record { module_name = functions; field = g; ty = externs.Func plain_core }
        ∷ [];
    offered = (h, externs.Func plain_core) ∷ [];
    metadata = record { import_encodings = []; export_encodings = [] };
  };
  required_exports = keys.Name h ∷ [];
  library_info = None;
}

-- the world exports the plain functions g, which main has to provide, and h, which the adapter has to
abbrev pub wit_of : List ℕ → Function
wit_of name = record { name = name; kind = Freestanding; params = []; result = None }

abbrev pub world : ComponentWorld
world = whole_of (record {
  resolve = record { interfaces = []; types = []; worlds = record { imports = []; exports = (keys.Name g, world_items.Function (wit_of g)) ∷ (keys.Name h, world_items.Function (wit_of h)) ∷ [] } ∷ [] };
  world = record { index = 0 };
  main = main;
  main_exports = keys.Name g ∷ [];
  adapters = (a, adapter) ∷ [];
  can_use_context_slot_1 = false;
})

-- ---- the lists

-- that with h taken from this core instance
abbrev pub taking_h : ℕ → List Def
taking_h instance = map defs.Item (
    items.CoreModule core
    ∷ items.CoreModule core_preamble
    ∷ items.CoreInstantiate 0 []
    ∷ items.Alias (aliases.CoreExport kinds.Memory 0 memory_text)
    ∷ items.CoreExports (record { name = memory_text; kind = kinds.Memory; index = 0 } ∷ [])
    ∷ items.CoreInstantiate 1 (record { name = memories; instance = 1 } ∷ record { name = functions; instance = 0 } ∷ [])
    ∷ items.Alias (aliases.CoreExport kinds.Func 0 g)
    ∷ items.Alias (aliases.CoreExport kinds.Func instance h)
    ∷ function
    ∷ items.Lift 0 [] 0
    ∷ items.Export (plain g) sorts.Func 0 None
    ∷ items.Lift 1 [] 0
    ∷ items.Export (plain h) sorts.Func 2 None
    ∷ [])

-- the adapter is core instance 2
abbrev pub definitions : List Def
definitions = taking_h 2

-- the same, where in place of main's instance the adapter is given one in which k and g are crossed
abbrev pub crossed_definitions : List Def
crossed_definitions = map defs.Item (
    items.CoreModule core
    ∷ items.CoreModule core_preamble
    ∷ items.CoreInstantiate 0 []
    ∷ items.Alias (aliases.CoreExport kinds.Memory 0 memory_text)
    ∷ items.CoreExports (record { name = memory_text; kind = kinds.Memory; index = 0 } ∷ [])
    ∷ items.Alias (aliases.CoreExport kinds.Func 0 g)
    ∷ items.Alias (aliases.CoreExport kinds.Func 0 k)
    ∷ inline_instance k 0 g 1
    ∷ items.CoreInstantiate 1 (record { name = memories; instance = 1 } ∷ record { name = functions; instance = 2 } ∷ [])
    ∷ items.Alias (aliases.CoreExport kinds.Func 3 h)
    ∷ function
    ∷ items.Lift 0 [] 0
    ∷ items.Export (plain g) sorts.Func 0 None
    ∷ items.Lift 2 [] 0
    ∷ items.Export (plain h) sorts.Func 2 None
    ∷ [])

-- ---- how they run

-- the outside instantiates both modules
abbrev pub both_made : List Answer
both_made = Gives [] 0 ∷ Gives [] 0 ∷ []

abbrev pub straight : Outcome
straight = outcome world no_modules definitions both_made

abbrev pub crossed : Outcome
crossed = outcome world no_modules crossed_definitions both_made

-- where h is taken from main
abbrev pub taken_from_main : Outcome
taken_from_main = outcome world no_modules (taking_h 0) both_made

abbrev pub memory_at : ℕ → Thing
memory_at address = record { space = spaces.CoreMemory; address = address }

abbrev pub main_instance : ModuleInstance
main_instance = record {
  module_number = 0;
  given = [];
  exports = record { space = spaces.CoreMemory; name = memory_text; address = 0 } ∷ core_export g 0 ∷ core_export k 1 ∷ core_export h 2 ∷ [];
}

abbrev pub adapter_instance : List Thing → ModuleInstance
adapter_instance given = record { module_number = 1; given = given; exports = core_export h 3 ∷ [] }

abbrev ended : Outcome → Option Ended
ended (Done m) = Some (record { code = m.store.code.functions; known = m.store.known; functions = m.store.functions; users = m.store.module_instances; exported = m.scope.exports; events = m.now.events })
ended outcome = None

-- the end, where the adapter is given these two functions after the memory, and h is lifted from this one
abbrev end_with : ℕ → ℕ → ℕ → Option Ended
end_with first second lifted = Some (record {
  code = Opaque 0 plain_core ∷ Opaque 1 plain_core ∷ Opaque 2 plain_core ∷ Opaque 3 plain_core ∷ [];
  known = ExportedBy 0 g ∷ ExportedBy 0 k ∷ ExportedBy 0 h ∷ ExportedBy 1 h ∷ [];
  functions = Lifting 0 [] plain_tree ∷ Lifting lifted [] plain_tree ∷ [];
  users = main_instance ∷ adapter_instance (memory_at 0 ∷ core_function first ∷ core_function second ∷ []) ∷ [];
  exported = record { space = spaces.Func; name = g; address = 0 } ∷ record { space = spaces.Func; name = h; address = 1 } ∷ [];
  events = Instantiated 0 ∷ Instantiated 1 ∷ [];
})

-- the adapter is given k and g, as it imports them
pub straight_ends : ended straight ≡ end_with 1 0 3
straight_ends = refl

-- in the other list it is given g for k, and k for g
pub crossed_ends : ended crossed ≡ end_with 0 1 3
crossed_ends = refl

-- in the third one h is lifted from main's h
pub taken_from_main_ends : ended taken_from_main ≡ end_with 1 0 2
taken_from_main_ends = refl
