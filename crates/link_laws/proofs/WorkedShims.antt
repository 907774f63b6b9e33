-- A worked example: main's imports are shims of a generated module, and a second one fills their table with lowerings.
use Rattle.std.proofs.Common.{◌≡◌, ℕ, pos, true≢false, List, [], ◌∷◌, ◌++◌, map, refl, sym, Option, Some, None, IsTrue}
use Rattle.std.specs.Prelude.{option_map}
use Rattle.comp_bytes.proofs.Worked.{plain, f, function, root, core as core_bytes}
use Rattle.standard_kinds.specs.declared.kinds.ExportKind.TheVariants as kinds
use Rattle.comp_bytes.specs.declared.space.Space.TheVariants as spaces
use Rattle.comp_bytes.specs.declared.types.Description.TheVariants as descriptions
use Rattle.comp_bytes.specs.declared.types.Alias.TheVariants as aliases
use Rattle.comp_bytes.specs.declared.def.Item.TheVariants as items
use Rattle.comp_bytes.specs.declared.def.Def.{Def}
use Rattle.comp_bytes.specs.declared.def.Def.TheVariants as defs
use Rattle.core_bytes.specs.Modules.{encoding_of}
use Rattle.core_bytes.specs.declared.entity.EntityType.TheVariants as entities
use Rattle.core_bytes.specs.declared.code.Instruction.TheVariants as instructions
use Rattle.core_bytes.specs.declared.section.Section.{Section}
use Rattle.core_bytes.specs.declared.section.Section.TheVariants as sections
use Rattle.core_bytes.proofs.Worked as given
use Rattle.core_runs.specs.Bodies.{table_shims, table_of_shims, table_fill}
use Rattle.core_runs.specs.Store.{Frame, Store as CodeStore, Func, Generated, Opaque, Cell, Answer, Gives, Traps, Event, Instantiated, Called, Now, ByCode}
use Rattle.core_runs.specs.Store as core
use Rattle.core_runs.specs.declared.bracket.AfterHook.TheVariants.{Nothing}
use Rattle.core_runs.specs.Hooks.{around}
use Rattle.core_runs.specs.Values.{Value, fit}
use Rattle.core_runs.specs.Expected.{Known, expected}
use Rattle.core_runs.specs.Execution.{exec, acts}
use Rattle.comp_worlds.specs.declared.world.ComponentWorld.{ComponentWorld}
use Rattle.comp_runs.specs.Store.{Thing, CoreItem, Lowering, Function, Imported, ModuleInstance}
use Rattle.comp_runs.specs.Machine.{Outcome, Done}
use Rattle.link_laws.specs.Composition.{GeneratedModules, instance_order}
use Rattle.link_laws.specs.Meeting.{KeepsReferences}
use Rattle.link_laws.specs.Linking.{outcome, TrapsAtOnce}
use Rattle.link_laws.proofs.Worked.{plain_tree, plain_core}
use Rattle.link_laws.proofs.Worked.{root_world, root_import, core_function, core_export, inline_instance, machine_of, made, h}

-- main imports f and h, and exports nothing
abbrev pub world : ComponentWorld
world = root_world core_bytes (f ∷ h ∷ []) [] ((root, (f, f) ∷ (h, h) ∷ []) ∷ []) []

-- ---- the generated modules

abbrev one_text : List ℕ
one_text = 0x31 ∷ []

-- two shims, which call through slots 0 and 1 of their table
abbrev pub shims : List Section
shims =
    sections.Types (plain_core ∷ [])
    ∷ sections.Functions (0 ∷ 0 ∷ [])
    ∷ sections.Tables (table_of_shims 2 ∷ [])
    ∷ sections.Exports (
    record { name = given.zero_text; kind = kinds.Func; index = 0 }
    ∷ record { name = one_text; kind = kinds.Func; index = 1 }
    ∷ record { name = given.imports_text; kind = kinds.Table; index = 0 }
    ∷ [])
    ∷ sections.Code (table_shims 0 (record { params = 0; type_index = 0 } ∷ record { params = 0; type_index = 0 } ∷ []))
    ∷ []

-- the fixup, which fills the slots with these of the two functions that it imports
abbrev pub fixup : List ℕ → List Section
fixup functions =
    sections.Types (plain_core ∷ [])
    ∷ sections.Imports (
    record { module_name = given.actual; field = given.zero_text; entity = entities.Function 0 }
    ∷ record { module_name = given.actual; field = one_text; entity = entities.Function 0 }
    ∷ record { module_name = given.shim; field = given.imports_text; entity = entities.Table (table_of_shims 2) }
    ∷ [])
    ∷ sections.Elements (table_fill functions ∷ [])
    ∷ []

abbrev pub generated : List ℕ → GeneratedModules
generated functions = record { shims = Some shims; fixup = Some (fixup functions) }

-- ---- the list

-- where these are the bytes of the generated modules
abbrev pub up_to_fixup_with : List ℕ → List ℕ → List Def
up_to_fixup_with shims_bytes fixup_bytes = map defs.Item (
    function
    ∷ items.Import (plain f) (descriptions.Func 0)
    ∷ items.Import (plain h) (descriptions.Func 0)
    ∷ items.CoreModule core_bytes
    ∷ items.CoreModule shims_bytes
    ∷ items.CoreModule fixup_bytes
    ∷ items.CoreInstantiate 1 []
    ∷ items.Alias (aliases.CoreExport kinds.Func 0 given.zero_text)
    ∷ items.Alias (aliases.CoreExport kinds.Func 0 one_text)
    ∷ inline_instance f 0 h 1
    ∷ items.CoreInstantiate 0 (record { name = root; instance = 1 } ∷ [])
    ∷ items.Alias (aliases.CoreExport kinds.Table 0 given.imports_text)
    ∷ items.Lower 0 []
    ∷ items.Lower 1 []
    ∷ inline_instance given.zero_text 2 one_text 3
    ∷ items.CoreExports (record { name = given.imports_text; kind = kinds.Table; index = 0 } ∷ [])
    ∷ [])

abbrev pub whole_with : List ℕ → List ℕ → List Def
whole_with shims_bytes fixup_bytes =
    up_to_fixup_with shims_bytes fixup_bytes
    ++ defs.Item (items.CoreInstantiate 2 (record { name = given.actual; instance = 3 } ∷ record { name = given.shim; instance = 4 } ∷ [])) ∷ []

abbrev pub shims_bytes : List ℕ
shims_bytes = (encoding_of shims).bytes

abbrev pub fixup_bytes : List ℕ → List ℕ
fixup_bytes functions = (encoding_of (fixup functions)).bytes

abbrev pub up_to_fixup : List ℕ → List Def
up_to_fixup functions = up_to_fixup_with shims_bytes (fixup_bytes functions)

abbrev pub whole : List ℕ → List Def
whole functions = whole_with shims_bytes (fixup_bytes functions)

-- ---- how it runs

abbrev before : Outcome
before = outcome world (generated (0 ∷ 1 ∷ [])) (up_to_fixup (0 ∷ 1 ∷ [])) made

abbrev pub straight : Outcome
straight = outcome world (generated (0 ∷ 1 ∷ [])) (whole (0 ∷ 1 ∷ [])) made

abbrev pub crossed : Outcome
crossed = outcome world (generated (1 ∷ 0 ∷ [])) (whole (1 ∷ 0 ∷ [])) made

-- how a run ended: the core functions and the tables, the known items, the functions, the instances, the events
pub record Ended : Type 0 where
  pub code : CodeStore
  pub known : List CoreItem
  pub functions : List Function
  pub instances : List ModuleInstance
  pub events : List Event

abbrev pub ended : Outcome → Option Ended
ended (Done m) = Some (record { code = m.store.code; known = m.store.known; functions = m.store.functions; instances = m.store.module_instances; events = m.now.events })
ended outcome = None

abbrev frame : Frame
frame = record { types = plain_core ∷ []; functions = 0 ∷ 1 ∷ []; tables = 0 ∷ []; globals = []; memories = [] }

abbrev pub shim_function : ℕ → Func
shim_function slot = Generated frame plain_core [] (instructions.I32Const (pos slot) ∷ instructions.CallIndirect 0 0 ∷ [])

-- the code, with this in the slots
abbrev pub code_with : List (Option ℕ) → CodeStore
code_with slots = record { functions = shim_function 0 ∷ shim_function 1 ∷ Opaque 0 plain_core ∷ Opaque 1 plain_core ∷ []; tables = slots ∷ []; memories = [] }

abbrev pub table_at : ℕ → Thing
table_at address = record { space = spaces.CoreTable; address = address }

abbrev pub shims_instance : ModuleInstance
shims_instance = record {
  module_number = 1;
  given = [];
  exports = core_export given.zero_text 0 ∷ core_export one_text 1 ∷ record { space = spaces.CoreTable; name = given.imports_text; address = 0 } ∷ [];
}

abbrev pub main_instance : ModuleInstance
main_instance = record { module_number = 0; given = core_function 0 ∷ core_function 1 ∷ []; exports = [] }

abbrev pub fixup_instance : ModuleInstance
fixup_instance = record { module_number = 2; given = core_function 2 ∷ core_function 3 ∷ table_at 0 ∷ []; exports = [] }

abbrev end_with : List (Option ℕ) → List ModuleInstance → Option Ended
end_with slots instances = Some (record {
  code = code_with slots;
  known = Lowering 0 [] ∷ Lowering 1 [] ∷ [];
  functions = Imported (root_import 0) plain_tree ∷ Imported (root_import 1) plain_tree ∷ [];
  instances = instances;
  events = Instantiated 0 ∷ [];
})

pub before_ends : ended before ≡ end_with (None ∷ None ∷ []) (shims_instance ∷ main_instance ∷ [])
before_ends = refl

pub straight_ends : ended straight ≡ end_with (Some 2 ∷ Some 3 ∷ []) (shims_instance ∷ main_instance ∷ fixup_instance ∷ [])
straight_ends = refl

pub crossed_ends : ended crossed ≡ end_with (Some 3 ∷ Some 2 ∷ []) (shims_instance ∷ main_instance ∷ fixup_instance ∷ [])
crossed_ends = refl

-- the modules are instantiated in their order
pub in_order : option_map (λ (e : Ended). map (λ (i : ModuleInstance). i.module_number) e.instances) (ended straight) ≡ Some (instance_order 1 (generated (0 ∷ 1 ∷ [])))
in_order = refl

-- ---- calls of the shims

-- at a moment with these answers to come
abbrev pub now_with : List Cell → List Answer → List Event → List (List Cell) → Now
now_with globals answers events moments = record { globals = globals; answers = answers; events = events; moments = moments }

abbrev pub opaque_at : ℕ → Known
opaque_at address = record { address = address; signature = plain_core }

-- a call of the function at an address, and nothing else
abbrev pub one_call : ℕ → List Value → Now → core.Outcome
one_call address arguments now = expected (around None Nothing) 0 (opaque_at address) arguments now

-- before the fixup each shim traps, with no event
pub traps_before_0 : TrapsAtOnce (machine_of before) 0
unfolding acts exec
traps_before_0 = record { function = shim_function 0; is = refl; traps = traps }
  where
    traps : (arguments : List Value) (now : Now) → IsTrue (fit [] arguments) → KeepsReferences (machine_of before).now.globals now.globals → acts (machine_of before).store.code 0 arguments now ≡ core.Trapped ByCode now
    traps [] now fits kept = refl
    traps (v ∷ vs) now fits kept = absurd (true≢false (sym fits))

pub traps_before_1 : TrapsAtOnce (machine_of before) 1
unfolding acts exec
traps_before_1 = record { function = shim_function 1; is = refl; traps = traps }
  where
    traps : (arguments : List Value) (now : Now) → IsTrue (fit [] arguments) → KeepsReferences (machine_of before).now.globals now.globals → acts (machine_of before).store.code 1 arguments now ≡ core.Trapped ByCode now
    traps [] now fits kept = refl
    traps (v ∷ vs) now fits kept = absurd (true≢false (sym fits))

-- a shim calls what its slot holds, whatever the outside answers
calls_2 : (slot : Option ℕ) (globals : List Cell) (answers : List Answer) (events : List Event) (moments : List (List Cell)) →
    acts (code_with (Some 2 ∷ slot ∷ [])) 0 [] (now_with globals answers events moments) ≡ one_call 2 [] (now_with globals answers events moments)
unfolding acts exec
calls_2 slot globals [] events moments = refl
calls_2 slot globals (Traps ∷ answers) events moments = refl
calls_2 slot globals (Gives [] number ∷ answers) events moments = refl
calls_2 slot globals (Gives (v ∷ vs) number ∷ answers) events moments = refl

calls_3 : (slot : Option ℕ) (globals : List Cell) (answers : List Answer) (events : List Event) (moments : List (List Cell)) →
    acts (code_with (slot ∷ Some 3 ∷ [])) 1 [] (now_with globals answers events moments) ≡ one_call 3 [] (now_with globals answers events moments)
unfolding acts exec
calls_3 slot globals [] events moments = refl
calls_3 slot globals (Traps ∷ answers) events moments = refl
calls_3 slot globals (Gives [] number ∷ answers) events moments = refl
calls_3 slot globals (Gives (v ∷ vs) number ∷ answers) events moments = refl

calls_other : (slot : Option ℕ) (globals : List Cell) (answers : List Answer) (events : List Event) (moments : List (List Cell)) →
    acts (code_with (Some 3 ∷ slot ∷ [])) 0 [] (now_with globals answers events moments) ≡ one_call 3 [] (now_with globals answers events moments)
unfolding acts exec
calls_other slot globals [] events moments = refl
calls_other slot globals (Traps ∷ answers) events moments = refl
calls_other slot globals (Gives [] number ∷ answers) events moments = refl
calls_other slot globals (Gives (v ∷ vs) number ∷ answers) events moments = refl

-- after the fixup, shim 0 is a call of the lowering of f, and shim 1 one of the lowering of h
pub shim_0_calls_f : (now : Now) → acts (machine_of straight).store.code 0 [] now ≡ one_call 2 [] now
shim_0_calls_f now = calls_2 (Some 3) now.globals now.answers now.events now.moments

pub shim_1_calls_h : (now : Now) → acts (machine_of straight).store.code 1 [] now ≡ one_call 3 [] now
shim_1_calls_h now = calls_3 (Some 2) now.globals now.answers now.events now.moments

-- where the fixup has the two the other way round, shim 0 is a call of the lowering of h
pub shim_0_calls_h : (now : Now) → acts (machine_of crossed).store.code 0 [] now ≡ one_call 3 [] now
shim_0_calls_h now = calls_other (Some 2) now.globals now.answers now.events now.moments

-- the same of one call, by its events
abbrev answers_once : Now
answers_once = now_with [] (Gives [] 0 ∷ []) [] []

abbrev called : Outcome → ℕ → core.Outcome
called ends address = acts (machine_of ends).store.code address [] answers_once

pub before_called : called before 0 ≡ core.Trapped ByCode answers_once
unfolding acts exec
before_called = refl

pub straight_called : called straight 0 ≡ core.Returned [] (now_with [] [] (Called 2 [] ∷ []) ([] ∷ []))
unfolding acts exec
straight_called = refl

pub straight_called_1 : called straight 1 ≡ core.Returned [] (now_with [] [] (Called 3 [] ∷ []) ([] ∷ []))
unfolding acts exec
straight_called_1 = refl

pub crossed_called : called crossed 0 ≡ core.Returned [] (now_with [] [] (Called 3 [] ∷ []) ([] ∷ []))
unfolding acts exec
crossed_called = refl
