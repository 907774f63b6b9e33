-- Worked examples: worlds, lists of definitions, and how running them ends.
use Rattle.comp_links.specs.Naming.{own_names}
use Rattle.std.proofs.Common.{inl, ◌≡◌, ℕ, zero, suc, List, [], ◌∷◌, refl, true, false, Option, Some, None, map, take, arith}
use Rattle.std.specs.Option.{option_map}
use Rattle.std.specs.List.{slice_get, flat_map, IsDistinct}
use Rattle.std.specs.Str.{bytes_eq}
use Rattle.comp_bytes.proofs.Worked.{plain, f, g, root, core, one_import_one_export}
use Rattle.standard_kinds.specs.declared.kinds.ExportKind.TheVariants as kinds
use Rattle.comp_bytes.specs.declared.space.Sort.TheVariants as sorts
use Rattle.comp_bytes.specs.declared.space.Space.TheVariants as spaces
use Rattle.comp_bytes.specs.declared.types.TypeDef.TheVariants as types
use Rattle.comp_bytes.specs.declared.types.Description.TheVariants as descriptions
use Rattle.comp_bytes.specs.declared.types.Alias.TheVariants as aliases
use Rattle.comp_bytes.specs.declared.types.ComponentValType.TheVariants as values
use Rattle.standard_kinds.specs.declared.kinds.Primitive.TheVariants as primitives
use Rattle.comp_bytes.specs.declared.canon.Intrinsic.TheVariants as intrinsics
use Rattle.comp_bytes.specs.declared.def.Item.{Item}
use Rattle.comp_bytes.specs.declared.def.Item.TheVariants as items
use Rattle.comp_bytes.specs.declared.def.Def.{Def}
use Rattle.comp_bytes.specs.declared.def.Def.TheVariants as defs
use Rattle.core_types.specs.Core.{core_preamble}
use Rattle.comp_worlds.specs.WorldTables.{whole_of}
use Rattle.standard_kinds.specs.declared.kinds.StringEncoding.{StringEncoding}
use Rattle.standard_kinds.specs.declared.kinds.StringEncoding.TheVariants as encodings
use Rattle.wit_data.specs.declared.functions.AbiVariant.TheVariants.{GuestImport, GuestExport}
use Rattle.wit_data.specs.declared.functions.FunctionKind.TheVariants.{Freestanding}
use Rattle.wit_data.specs.declared.worlds.WorldKey.{WorldKey}
use Rattle.wit_data.specs.declared.worlds.WorldKey.TheVariants as keys
use Rattle.wit_data.specs.declared.worlds.WorldItem.{WorldItem}
use Rattle.wit_data.specs.declared.worlds.WorldItem.TheVariants as world_items
use Rattle.wit_data.specs.declared.functions.Function.{Function as WitFunction}
use Rattle.comp_roles.specs.declared.metadata.FunctionKey.{FunctionKey}
use Rattle.comp_roles.specs.declared.imports.Import.{Import}
use Rattle.comp_roles.specs.declared.imports.Import.TheVariants as imports
use Rattle.comp_roles.specs.declared.imports.ImportInstance.{ImportInstance}
use Rattle.comp_roles.specs.declared.imports.ImportInstance.TheVariants as instances
use Rattle.comp_roles.specs.declared.exports.Export.{Export as WorldExport}
use Rattle.comp_roles.specs.declared.exports.Export.TheVariants as exports
use Rattle.comp_worlds.specs.declared.world.ComponentWorld.{ComponentWorld}
use Rattle.core_types.specs.declared.types.FuncType.{FuncType}
use Rattle.core_types.specs.declared.types.ValType.TheVariants.{I32, I64}
use Rattle.core_types.specs.declared.types.RefType.TheVariants.{FuncRef}
use Rattle.core_types.specs.declared.types.MemoryType.{MemoryType}
use Rattle.comp_roles.specs.declared.offered.ExternType.{ExternType}
use Rattle.comp_roles.specs.declared.offered.ExternType.TheVariants as externs
use Rattle.comp_roles.specs.declared.offered.ImportType.{ImportType}
use Rattle.comp_inventories.specs.Inventories.{inventory}
use Rattle.comp_roles.specs.CoreTypes.{function_type}
use Rattle.core_runs.specs.Values.{I32Value}
use Rattle.core_runs.specs.Store.{Store as CodeStore, Func, Opaque, Cell, Foreign, Answer, Gives, Traps, Event, Instantiated, Called}
use Rattle.core_runs.specs.Execution.{exec, acts}
use Rattle.comp_trees.specs.Trees.{Origin, ImportedAt, ResourceAt, FunctionTree}
use Rattle.comp_runs.specs.Store.{Thing, Export, CoreItem, Lowering, IntrinsicOf, ExportedBy, Function, Imported, Lifting, ModuleInstance}
use Rattle.comp_bytes.specs.ItemIndices.{in_space}
use Rattle.comp_terms.specs.Terms.{IsFunctionType, IsImportedFunction, IsLowering, IsInstanceOf}
use Rattle.comp_terms.specs.Terms as terms
use Rattle.comp_terms.specs.Planned.{IsTypeOf, IsLiftFor, IsArgumentFor}
use Rattle.comp_links.specs.Targets.{Main, OfRoot, Lifted as LiftedFrom}
use Rattle.comp_terms.specs.Rules.{IsBuilt}
use Rattle.comp_runs.specs.Machine.{Machine, Outcome, Done, Trapped, Open, Stuck, new_core_function, resumed}
use Rattle.comp_runs.specs.Instances.{ExportTypes, new_user}
use Rattle.link_laws.specs.Linking.{outcome}
use Rattle.link_laws.proofs.BaseRoles.{no_bases}
use Rattle.link_laws.proofs.Stores.{main_module}
use Rattle.link_laws.proofs.Steps.{no_modules}
use Rattle.comp_runs.specs.Running.{fresh_machine}

-- the type of a function with no parameter and no result, and its core type
abbrev pub plain_tree : FunctionTree
plain_tree = record { is_async = false; params = []; result = None }

abbrev pub plain_core : FuncType
plain_core = function_type [] []

-- a world of root functions: those that it imports and exports, what main imports, and what main exports
abbrev entry : List ℕ → WorldKey × WorldItem
entry name = (keys.Name name, world_items.Function (record { name = name; kind = Freestanding; params = []; result = None }))

abbrev encoded : List ℕ → FunctionKey × StringEncoding
encoded name = (record { key = keys.Name name; function = name }, encodings.UTF8)

abbrev imported_as : List ℕ × List ℕ → List ℕ × Import
imported_as field = (field.0, imports.WorldFunc (keys.Name field.1) field.1 GuestImport)

abbrev group : List ℕ × List (List ℕ × List ℕ) → List ℕ × ImportInstance
group g = (g.0, instances.Names (map imported_as g.1))

abbrev exported_as : List ℕ × List ℕ → List ℕ × WorldExport
exported_as e = (e.0, exports.WorldFunc (keys.Name e.1) e.1 GuestExport)

-- what validation finds: imports and exports of plain functions
abbrev imports_found : List ℕ × List (List ℕ × List ℕ) → List ImportType
imports_found g = map (λ field. record { module_name = g.0; field = field.0; ty = externs.Func plain_core }) g.1

abbrev export_found : List ℕ × List ℕ → List ℕ × ExternType
export_found e = (e.0, externs.Func plain_core)

abbrev pub root_world : (bytes : List ℕ) (imported exported : List (List ℕ)) (groups : List (List ℕ × List (List ℕ × List ℕ))) (core_exports : List (List ℕ × List ℕ)) → ComponentWorld
root_world bytes imported exported groups core_exports = whole_of (record {
  resolve = record { interfaces = []; types = []; worlds = record { imports = map entry imported; exports = map entry exported } ∷ [] };
  world = record { index = 0 };
  main = record {
    bytes = bytes;
    imports = record { modules = map group groups };
    exports = record { exports = map exported_as core_exports };
    imported = flat_map imports_found groups;
    offered = map export_found core_exports;
    metadata = record { import_encodings = map encoded imported; export_encodings = map encoded exported };
  };
  main_exports = map keys.Name exported;
  adapters = [];
  can_use_context_slot_1 = false;
})

-- how a run ended: the core functions, their known items, the functions, what each user instance
-- was given, the exports, the events
pub record Ended : Type 0 where
  pub code : List Func
  pub known : List CoreItem
  pub functions : List Function
  pub users : List ModuleInstance
  pub exported : List Export
  pub events : List Event

abbrev pub ended : Outcome → Option Ended
ended (Done m) = Some (record { code = m.store.code.functions; known = m.store.known; functions = m.store.functions; users = m.store.module_instances; exported = m.scope.exports; events = m.now.events })
ended _ = None

-- a root function that is imported, by the number of the import
abbrev pub root_import : ℕ → Origin
root_import n = record { number = n; inner = None }

-- opaque functions of the plain core type, by the indexes of their known items
abbrev opaque_from : ℕ → ℕ → List Func
opaque_from k zero = []
opaque_from k (suc n) = Opaque k plain_core ∷ opaque_from (suc k) n

abbrev pub made : List Answer
made = Gives [] 0 ∷ []

abbrev pub core_function : ℕ → Thing
core_function address = record { space = spaces.CoreFunc; address = address }

abbrev pub core_export : List ℕ → ℕ → Export
core_export name address = record { space = spaces.CoreFunc; name = name; address = address }

abbrev function_export : List ℕ → ℕ → Export
function_export name address = record { space = spaces.Func; name = name; address = address }

-- main imports f and exports g
abbrev one_each : ComponentWorld
one_each = root_world core (f ∷ []) (g ∷ []) ((root, (f, f) ∷ []) ∷ []) ((g, g) ∷ [])

pub one_each_ends : ended (outcome one_each no_modules one_import_one_export made) ≡ Some (record {
  code = opaque_from 0 2;
  known = Lowering 0 [] ∷ ExportedBy 0 g ∷ [];
  functions = Imported (root_import 0) plain_tree ∷ Lifting 1 [] plain_tree ∷ [];
  users = record { module_number = 0; given = core_function 0 ∷ []; exports = core_export g 1 ∷ [] } ∷ [];
  exported = function_export g 1 ∷ [];
  events = Instantiated 0 ∷ [];
})
one_each_ends = refl

abbrev then_calls : ℕ → Outcome → Outcome
then_calls function (Done m) = resumed (acts m.store.code function [] m.now) m (λ results after. Done after)
then_calls function o = o

-- where the outside traps, has no answer left, or returns a value, the run isn't done
abbrev pub is_trapped : Outcome → Option ℕ
is_trapped (Trapped m) = Some 0
is_trapped (Open m) = Some 1
is_trapped Stuck = Some 2
is_trapped (Done m) = None

pub one_each_traps : is_trapped (outcome one_each no_modules one_import_one_export (Traps ∷ [])) ≡ Some 0
one_each_traps = refl

pub one_each_open : is_trapped (outcome one_each no_modules one_import_one_export []) ≡ Some 1
one_each_open = refl

pub one_each_of_wrong_types : is_trapped (outcome one_each no_modules one_import_one_export (Gives (I32Value 0 ∷ []) 0 ∷ [])) ≡ Some 1
one_each_of_wrong_types = refl

-- after the run, a call of what main's import was given is the only event
pub one_each_called : ended (then_calls 0 (outcome one_each no_modules one_import_one_export (Gives [] 0 ∷ Gives [] 0 ∷ []))) ≡ Some (record {
  code = opaque_from 0 2;
  known = Lowering 0 [] ∷ ExportedBy 0 g ∷ [];
  functions = Imported (root_import 0) plain_tree ∷ Lifting 1 [] plain_tree ∷ [];
  users = record { module_number = 0; given = core_function 0 ∷ []; exports = core_export g 1 ∷ [] } ∷ [];
  exported = function_export g 1 ∷ [];
  events = Instantiated 0 ∷ Called 0 [] ∷ [];
})
unfolding acts exec
one_each_called = refl

-- a list that lacks an item is stuck
pub nothing_to_lower : outcome one_each no_modules (defs.Item (items.Lower 0 []) ∷ []) made ≡ Stuck
nothing_to_lower = refl

-- a lowering of a function with a string has the core type of its parameter's address and length
pub lowers_a_string : option_map (λ (e : Ended). e.code) (ended (outcome one_each no_modules (map defs.Item (
    items.Type (types.Func (record { async_ = false; params = record { name = f; ty = values.Primitive primitives.String } ∷ []; result = None }))
    ∷ items.Import (plain f) (descriptions.Func 0)
    ∷ items.Lower 0 []
    ∷ [])) made)) ≡ Some (Opaque 0 (function_type (I32 ∷ I32 ∷ []) []) ∷ [])
lowers_a_string = refl

-- a drop of the second of two resources, by that resource
pub drops_the_second : option_map (λ (e : Ended). e.known) (ended (outcome one_each no_modules (map defs.Item (
    items.Import (plain f) descriptions.SubResource
    ∷ items.Import (plain g) descriptions.SubResource
    ∷ items.Intrinsic (intrinsics.ResourceDrop 1)
    ∷ [])) made)) ≡ Some (IntrinsicOf (intrinsics.ResourceDrop 0) (Some (ResourceAt (ImportedAt (record { number = 1; inner = None })))) [] ∷ [])
drops_the_second = refl

-- an intrinsic is an opaque function of its core type
pub intrinsic_ends : ended (outcome one_each no_modules (defs.Item (items.Intrinsic intrinsics.WaitableJoin) ∷ []) []) ≡ Some (record {
  code = Opaque 0 (function_type (I32 ∷ I32 ∷ []) []) ∷ [];
  known = IntrinsicOf intrinsics.WaitableJoin None [] ∷ [];
  functions = [];
  users = [];
  exported = [];
  events = [];
})
intrinsic_ends = refl

-- the empty module, which imports and exports nothing
abbrev empty_module : ComponentWorld
empty_module = root_world core_preamble [] [] [] []

pub empty_module_ends : ended (outcome empty_module no_modules (map defs.Item (items.CoreModule core_preamble ∷ items.CoreInstantiate 0 [] ∷ [])) made) ≡ Some (record {
  code = [];
  known = [];
  functions = [];
  users = record { module_number = 0; given = []; exports = [] } ∷ [];
  exported = [];
  events = Instantiated 0 ∷ [];
})
empty_module_ends = refl

-- two functions of one type, each imported from two modules, and two exports
abbrev pub h : List ℕ
h = 0x68 ∷ []

abbrev pub k : List ℕ
k = 0x6b ∷ []

abbrev pub a : List ℕ
a = 0x61 ∷ []

abbrev b : List ℕ
b = 0x62 ∷ []

abbrev pub two_twice : ComponentWorld
two_twice = root_world core (f ∷ h ∷ []) (g ∷ k ∷ []) ((a, (f, f) ∷ (h, h) ∷ []) ∷ (b, (h, f) ∷ (f, h) ∷ []) ∷ []) ((k, g) ∷ (g, k) ∷ [])

abbrev pub inline_instance : List ℕ → ℕ → List ℕ → ℕ → Item
inline_instance name index name' index' = items.CoreExports (record { name = name; kind = kinds.Func; index = index } ∷ record { name = name'; kind = kinds.Func; index = index' } ∷ [])

-- the list, where the two lowerings of the first module have these functions
abbrev two_twice_defs : ℕ → ℕ → List Def
two_twice_defs first second = map defs.Item (
    items.Type (types.Func (record { async_ = false; params = []; result = None }))
    ∷ items.Import (plain f) (descriptions.Func 0)
    ∷ items.Import (plain h) (descriptions.Func 0)
    ∷ items.CoreModule core
    ∷ items.Lower first []
    ∷ items.Lower second []
    ∷ inline_instance f 0 h 1
    ∷ items.Lower 0 []
    ∷ items.Lower 1 []
    ∷ inline_instance h 2 f 3
    ∷ items.CoreInstantiate 0 (record { name = a; instance = 0 } ∷ record { name = b; instance = 1 } ∷ [])
    ∷ items.Alias (aliases.CoreExport kinds.Func 2 k)
    ∷ items.Lift 4 [] 0
    ∷ items.Export (plain g) sorts.Func 2 None
    ∷ items.Alias (aliases.CoreExport kinds.Func 2 g)
    ∷ items.Lift 5 [] 0
    ∷ items.Export (plain k) sorts.Func 4 None
    ∷ [])

-- an exported name is a core item of the other name, as the roles say
pub two_twice_ends : ended (outcome two_twice no_modules (two_twice_defs 0 1) made) ≡ Some (record {
  code = opaque_from 0 6;
  known = Lowering 0 [] ∷ Lowering 1 [] ∷ Lowering 0 [] ∷ Lowering 1 [] ∷ ExportedBy 0 k ∷ ExportedBy 0 g ∷ [];
  functions = Imported (root_import 0) plain_tree ∷ Imported (root_import 1) plain_tree ∷ Lifting 4 [] plain_tree ∷ Lifting 5 [] plain_tree ∷ [];
  users = record { module_number = 0; given = core_function 0 ∷ core_function 1 ∷ core_function 2 ∷ core_function 3 ∷ []; exports = core_export k 4 ∷ core_export g 5 ∷ [] } ∷ [];
  exported = function_export g 2 ∷ function_export k 3 ∷ [];
  events = Instantiated 0 ∷ [];
})
two_twice_ends = refl

-- a user instance with exports of each kind: each item has an address of its own, after one that was added before
abbrev one_page : MemoryType
one_page = record { minimum = 1; maximum = None }

abbrev each_kind : ExportTypes
each_kind =
    (f, externs.Func plain_core)
    ∷ (g, externs.Memory one_page)
    ∷ (h, externs.Global (record { val_type = I64; mutable = true }))
    ∷ (k, externs.Table (record { element_type = FuncRef; minimum = 2; maximum = None }))
    ∷ (a, externs.Func (function_type (I32 ∷ []) []))
    ∷ []

abbrev core_items : Machine → List (List Export) × CodeStore × List CoreItem × List Cell
core_items m = (m.store.core_instances, m.store.code, m.store.known, m.now.globals)

pub each_kind_exists : core_items (new_user 0 each_kind [] (new_core_function (Lowering 0 []) plain_core (fresh_machine []))) ≡ (
  (
      record { space = spaces.CoreFunc; name = f; address = 1 }
      ∷ record { space = spaces.CoreMemory; name = g; address = 0 }
      ∷ record { space = spaces.CoreGlobal; name = h; address = 0 }
      ∷ record { space = spaces.CoreTable; name = k; address = 0 }
      ∷ record { space = spaces.CoreFunc; name = a; address = 2 }
      ∷ []
      ) ∷ [],
  record {
    functions = Opaque 0 plain_core ∷ Opaque 1 plain_core ∷ Opaque 3 (function_type (I32 ∷ []) []) ∷ [];
    tables = (None ∷ None ∷ []) ∷ [];
    memories = one_page ∷ [];
  },
  Lowering 0 [] ∷ ExportedBy 0 f ∷ ExportedBy 0 h ∷ ExportedBy 0 a ∷ [],
  Foreign 2 I64 ∷ [],
)
each_kind_exists = refl

-- where the two are swapped, the run ends, but it isn't linked: the first import is given a lowering of h, not of f
abbrev pub crossed : Outcome
crossed = outcome two_twice no_modules (two_twice_defs 1 0) made

abbrev pub machine_of : Outcome → Machine
machine_of (Done m) = m
machine_of _ = fresh_machine []

pub crossed_ends : ended crossed ≡ Some (record {
  code = opaque_from 0 6;
  known = Lowering 1 [] ∷ Lowering 0 [] ∷ Lowering 0 [] ∷ Lowering 1 [] ∷ ExportedBy 0 k ∷ ExportedBy 0 g ∷ [];
  functions = Imported (root_import 0) plain_tree ∷ Imported (root_import 1) plain_tree ∷ Lifting 4 [] plain_tree ∷ Lifting 5 [] plain_tree ∷ [];
  users = record { module_number = 0; given = core_function 0 ∷ core_function 1 ∷ core_function 2 ∷ core_function 3 ∷ []; exports = core_export k 4 ∷ core_export g 5 ∷ [] } ∷ [];
  exported = function_export g 2 ∷ function_export k 3 ∷ [];
  events = Instantiated 0 ∷ [];
})
crossed_ends = refl

-- one list that keeps every rule, so that no rule is a contradiction
abbrev ds : ℕ → List Def
ds n = take n one_import_one_export

function_typed : IsFunctionType (ds 1) 0 plain_tree
unfolding inventory
function_typed = record { denotes = record { within = omega arith; tree = refl } }

function_typed_later : IsFunctionType (ds 7) 0 plain_tree
unfolding inventory
function_typed_later = record { denotes = record { within = omega arith; tree = refl } }

function_typed_at_end : IsFunctionType (ds 8) 0 plain_tree
unfolding inventory
function_typed_at_end = record { denotes = record { within = omega arith; tree = refl } }

f_imported : IsImportedFunction (ds 3) 0 (root_import 0) plain_tree
unfolding inventory
f_imported = record { is = refl }

f_imported_later : IsImportedFunction (ds 5) 0 (root_import 0) plain_tree
unfolding inventory
f_imported_later = record { is = refl }

f_lowered : IsLowering (ds 5) 0 (root_import 0) plain_tree []
f_lowered = record {
  function = 0;
  written = [];
  made = record { made = refl };
  of = f_imported_later;
  with_options = tt;
}

f_typed : IsTypeOf one_each (OfRoot f) plain_tree
f_typed = record { wit = record { name = f; kind = Freestanding; params = []; result = None }; imported = refl; typed = refl }

f_offered : IsArgumentFor one_each Main (ds 5) (record { name = root; instance = 0 }) (group (root, (f, f) ∷ []))
f_offered = record {
  named = refl;
  serves = record {
    entries = record { name = f; kind = kinds.Func; index = 0 } ∷ [];
    made = record { made = refl };
    each = (record { named = refl; serves = inl (record { term = terms.Lowering (root_import 0) plain_tree []; is = f_lowered; asked = ((refl, refl), f_typed, tt) }); supplied = record { encoding = λ e. refl; memory = λ e. cc; realloc = λ shared needed. cc } }, tt);
  };
}

main_made : (n : ℕ) → slice_get (in_space spaces.CoreInstance (ds n)) 1 ≡ Some (defs.Item (items.CoreInstantiate 0 (record { name = root; instance = 0 } ∷ []))) → IsInstanceOf (ds n) 1 0
main_made n at = record { arguments = record { name = root; instance = 0 } ∷ []; made = record { made = at } }

g_lifted : IsLiftFor one_each (ds 8) 1 (LiftedFrom (record { of = Main; name = g }) []) plain_tree
g_lifted = record {
  entry = record { of = 0; kind = kinds.Func; name = g };
  options = [];
  is = record {
    core = 1;
    kind = 0;
    written = [];
    made = record { made = refl };
    of = record { instance = 1; made = record { made = refl }; of = main_made 8 refl };
    function = refl;
    with_options = tt;
    typed = function_typed_at_end;
  };
  asked = (record { of = record { world_module = main_module one_each; listed = refl; same = refl }; named = refl }, tt);
}

pub one_apart : (name : List ℕ) → IsDistinct bytes_eq (name ∷ [])
unfolding IsDistinct
one_apart name = (tt, tt)

abbrev wit_g : WitFunction
wit_g = record { name = g; kind = Freestanding; params = []; result = None }

pub keeps_the_rules : IsBuilt own_names one_each one_import_one_export
keeps_the_rules = record {
  generated = record { shims = None; fixup = None };
  are_generated = record { shims = refl; fixup = refl; room = omega arith; alike = no_bases one_each refl };
  front = one_import_one_export;
  names = [];
  whole = refl;
  right = (
    refl,
    (
      record { type = plain_tree; is = function_typed },
      (
        tt,
        (
          (record { origin = root_import 0; type = plain_tree; is = f_imported }, tt),
          (
            record { each = (record { scoped = omega arith }, tt); apart = one_apart f },
            (
              inl (record { of = main_module one_each; listed = refl; scoped = omega arith; each = (f_offered, tt) }),
              (
                inl (record { number = 0; of = main_module one_each; type = externs.Func plain_core; is = main_made 6 refl; listed = refl; offered = refl; of_kind = refl }),
                (
                  (omega arith, tt, record { type = plain_tree; is = function_typed_later }),
                  (record { required = record { of = Main; key = keys.Name g }; function = wit_g; next = refl; item = refl; lifted = record { target = LiftedFrom (record { of = Main; name = g }) []; wit = wit_g; said = refl; exported = refl; is = g_lifted } }, tt),
                ),
              ),
            ),
          ),
        ),
      ),
    ),
  );
  marked = refl;
  named = tt;
}
