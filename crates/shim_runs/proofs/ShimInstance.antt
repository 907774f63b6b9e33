-- The instance of the module of shims can always be made.
use Rattle.std.proofs.Common.{◌≡◌, ◌∙◌, ◌+◌, ◌<◌, ◌≤◌, ℕ, zero, suc, Bool, true, false, List, [], ◌∷◌, ◌++◌, length, map, Option, Some, None, if◌then◌else◌, option_map, append-nil, append_assoc, length-append, codes, refl, sym, ap, subst, arith}
use Rattle.std.proofs.lemmas.List.{length-map}
use Rattle.std.specs.Fmt.{decimal}
use Rattle.std.specs.List.{slice_get, list_any, flat_map, range_with_len}
use Rattle.comp_lists.proofs.Lists.{slice_get-append, slice_get-end}
use Rattle.comp_bytes.specs.declared.space.Space.TheVariants as spaces
use Rattle.core_types.specs.declared.types.FuncType.{FuncType}
use Rattle.core_types.specs.declared.types.MemoryType.{MemoryType}
use Rattle.core_types.specs.declared.types.TableType.{TableType}
use Rattle.core_types.specs.declared.types.ValType.{ValType}
use Rattle.core_types.specs.declared.types.ValType.TheVariants.{I32, I64, F32, F64, Ref}
use Rattle.core_bytes.specs.declared.code.Body.{Body}
use Rattle.core_bytes.specs.declared.entry.Export.{Export as CoreExport}
use Rattle.core_bytes.specs.declared.entry.Import.{Import as CoreImport}
use Rattle.core_runs.specs.declared.tables.Shim.{Shim as ShimCode}
use Rattle.core_runs.specs.Values.{zero_of}
use Rattle.core_runs.specs.Store.{Frame, Func, Generated, Store, Cell, Kept, Now}
use Rattle.core_runs.specs.Store as core
use Rattle.core_runs.specs.Bodies.{table_shim, table_shims, table_of_shims, tls_get, tls_set}
use Rattle.core_runs.specs.Cells.{getter_type, setter_type}
use Rattle.core_runs.specs.Instances.{Parts, Made, own_functions, own_globals, own_tables, cons_if, made_of, instance_of, started, empty_table}
use Rattle.core_runs.specs.LawsOfInstances.{Slot, shim_of, shim_parts, Typed}
use Rattle.core_runs.proofs.Instances.{table_functions}
use Rattle.core_runs.proofs.Runs.{has_all}
use Rattle.comp_runs.specs.Store.{Export, Store as RunStore}
use Rattle.comp_runs.specs.Machine.{Scope, Machine, all_some}
use Rattle.comp_runs.specs.Instances.{Arguments, argument_for, entity_kind, export_at, section_imports, section_exports, with_module_instance}
use Rattle.interned_types.specs.Interning.{is_type, interned, type_index}
use Rattle.interned_types.proofs.TypeIndices.{type_at}
use Rattle.shim_modules.specs.declared.shims.ShimFunction.{ShimFunction}
use Rattle.shim_modules.specs.declared.shims.ThreadCell.{ThreadCell}
use Rattle.shim_modules.specs.Shims.{shim_exports, table_exports, memory_exports, getter_name, setter_name, cell_exports, cell_global, exports_of, names_of, shim_sections}
use Rattle.shim_modules.specs.Laws.{memories_of, module_parts}
use Rattle.shim_modules.specs.Laws as laws
use Rattle.shim_modules.proofs.Parts.{shim_modules_are_shims}
use Rattle.shim_plan.specs.declared.shims.Shim.{Shim}
use Rattle.world_shims.specs.Refusals.{cell_count}
use Rattle.world_shims.specs.WorldShims.{type_of_shim, types_with, with_cell_types, cell_of, functions_of, sections_of_shims}
use Rattle.world_shims.proofs.Listing.{count_of_functions}
use Rattle.shim_runs.specs.ShimRuns.{AreShimsFrom, IsOfAddresses, AreOfCell, shims_exported, table_exported, memory_at, memory_exported, exported_function, cell_exported, instance_exports, with_shim_table, with_memory, memory_address, with_cell, with_shims, machine, ShimsRun}
use Rattle.shim_runs.proofs.Instantiating.{IsMade, made_runs}

-- ---- types

-- a type stays at its index while others are interned
type_kept : (types : List FuncType) (new type : FuncType) (i : ℕ) → slice_get types i ≡ Some type → slice_get (interned types new) i ≡ Some type
type_kept types new type i h = by (list_any (is_type new) types)
  where
    by : (b : Bool) → slice_get (if b then types else types ++ new ∷ []) i ≡ Some type
    by true = h
    by false = slice_get-append types (new ∷ []) i type h

pub types_kept : (types : List FuncType) (shims : List Shim) (type : FuncType) (i : ℕ) → slice_get types i ≡ Some type → slice_get (types_with types shims) i ≡ Some type
types_kept types [] type i h = h
types_kept types (s ∷ ss) type i h = types_kept (interned types (type_of_shim s)) ss type i (type_kept types (type_of_shim s) type i h)

-- the type of the next shim is there, whatever shims follow
pub own_type : (types : List FuncType) (s : Shim) (ss : List Shim) → slice_get (types_with types (s ∷ ss)) (type_index types (type_of_shim s)) ≡ Some (type_of_shim s)
own_type types s ss = types_kept (interned types (type_of_shim s)) ss (type_of_shim s) (type_index types (type_of_shim s)) (type_at types (type_of_shim s))

-- shims by their types
abbrev slots_of : List FuncType → List Shim → List Slot
slots_of types [] = []
slots_of types (s ∷ ss) = record { index = type_index types (type_of_shim s); type = type_of_shim s } ∷ slots_of (interned types (type_of_shim s)) ss

typed_slots : (types : List FuncType) (shims : List Shim) → Typed (types_with types shims) (slots_of types shims)
typed_slots types [] = tt
typed_slots types (s ∷ ss) = (own_type types s ss, typed_slots (interned types (type_of_shim s)) ss)

same_codes : (types : List FuncType) (shims : List Shim) → map (λ (f : ShimFunction). f.code) (functions_of types shims) ≡ map shim_of (slots_of types shims)
same_codes types [] = refl
same_codes types (s ∷ ss) = ap (λ (l : List ShimCode). record { params = length (type_of_shim s).params; type_index = type_index types (type_of_shim s) } ∷ l) (same_codes (interned types (type_of_shim s)) ss)

-- and types that are interned behind theirs change none of them
typed_kept : (types : List FuncType) (new : FuncType) (slots : List Slot) → Typed types slots → Typed (interned types new) slots
typed_kept types new [] h = tt
typed_kept types new (s ∷ ss) h = (type_kept types new s.type s.index h.0, typed_kept types new ss h.1)

slots_length : (types : List FuncType) (shims : List Shim) → length (slots_of types shims) ≡ length shims
slots_length types [] = refl
slots_length types (s ∷ ss) = ap suc (slots_length (interned types (type_of_shim s)) ss)

-- ---- imports and exports

no_imports_of_names : (cell : Option ThreadCell) (functions : List ShimFunction) (debug_names : Bool) → flat_map section_imports (names_of debug_names cell functions) ≡ []
no_imports_of_names cell functions true = refl
no_imports_of_names cell functions false = refl

no_imports : (memory : Option MemoryType) (cell : Option ThreadCell) (types : List FuncType) (functions : List ShimFunction) (debug_names : Bool) → flat_map section_imports (shim_sections memory cell types functions debug_names) ≡ []
no_imports None None types [] debug_names = no_imports_of_names None [] debug_names
no_imports None None types (f ∷ fs) debug_names = no_imports_of_names None (f ∷ fs) debug_names
no_imports None (Some c) types [] debug_names = no_imports_of_names (Some c) [] debug_names
no_imports None (Some c) types (f ∷ fs) debug_names = no_imports_of_names (Some c) (f ∷ fs) debug_names
no_imports (Some m) None types [] debug_names = no_imports_of_names None [] debug_names
no_imports (Some m) None types (f ∷ fs) debug_names = no_imports_of_names None (f ∷ fs) debug_names
no_imports (Some m) (Some c) types [] debug_names = no_imports_of_names (Some c) [] debug_names
no_imports (Some m) (Some c) types (f ∷ fs) debug_names = no_imports_of_names (Some c) (f ∷ fs) debug_names

no_exports_of_names : (cell : Option ThreadCell) (functions : List ShimFunction) (debug_names : Bool) → flat_map section_exports (names_of debug_names cell functions) ≡ []
no_exports_of_names cell functions true = refl
no_exports_of_names cell functions false = refl

-- nothing is exported behind the section of exports
exports_last : (memory : Option MemoryType) (cell : Option ThreadCell) (functions : List ShimFunction) (debug_names : Bool) → exports_of memory cell functions ++ flat_map section_exports (names_of debug_names cell functions) ≡ exports_of memory cell functions
exports_last memory cell functions debug_names = ap (λ l. exports_of memory cell functions ++ l) (no_exports_of_names cell functions debug_names) ∙ append-nil (exports_of memory cell functions)

pub exports_alone : (memory : Option MemoryType) (cell : Option ThreadCell) (types : List FuncType) (functions : List ShimFunction) (debug_names : Bool) → flat_map section_exports (shim_sections memory cell types functions debug_names) ≡ exports_of memory cell functions
exports_alone None None types [] debug_names = exports_last None None [] debug_names
exports_alone None None types (f ∷ fs) debug_names = exports_last None None (f ∷ fs) debug_names
exports_alone None (Some c) types [] debug_names = exports_last None (Some c) [] debug_names
exports_alone None (Some c) types (f ∷ fs) debug_names = exports_last None (Some c) (f ∷ fs) debug_names
exports_alone (Some m) None types [] debug_names = exports_last (Some m) None [] debug_names
exports_alone (Some m) None types (f ∷ fs) debug_names = exports_last (Some m) None (f ∷ fs) debug_names
exports_alone (Some m) (Some c) types [] debug_names = exports_last (Some m) (Some c) [] debug_names
exports_alone (Some m) (Some c) types (f ∷ fs) debug_names = exports_last (Some m) (Some c) (f ∷ fs) debug_names

range_at : (first count i : ℕ) → i < count → slice_get (range_with_len first count) i ≡ Some (first + i)
range_at first zero i h = absurd (omega arith)
range_at first (suc count) zero h = let e : first ≡ first + 0 = omega arith in ap (λ n. Some n) e
range_at first (suc count) (suc i) h =
    let e : first + 1 + i ≡ first + suc i = omega arith in
    range_at (first + 1) count i (omega arith) ∙ ap (λ n. Some n) e

-- each function is exported, and what is behind them
exports_are : (frame : Frame) (first count : ℕ) → frame.functions ≡ range_with_len first count → (rest : List CoreExport) (exported : List Export) → all_some (map (export_at frame) rest) ≡ Some exported → (types : List FuncType) (shims : List Shim) (place address : ℕ) → address ≡ first + place → place + length shims ≤ count →
    all_some (map (export_at frame) (shim_exports place (functions_of types shims) ++ rest)) ≡ Some (shims_exported place address shims ++ exported)
exports_are frame first count functions rest exported behind types [] place address at room = behind
exports_are frame first count functions rest exported behind types (s ∷ ss) place address at room =
    let export_of : ℕ → Export = λ a. record { space = spaces.CoreFunc; name = decimal place; address = a } in
    let others = map (export_at frame) (shim_exports (suc place) (functions_of (interned types (type_of_shim s)) ss) ++ rest) in
    let own : slice_get frame.functions place ≡ Some address = ap (λ l. slice_get l place) functions ∙ range_at first count place (omega arith) ∙ ap (λ n. Some n) (sym at) in
    ap (λ o. all_some (option_map export_of o ∷ others)) own
    ∙ ap (λ o. option_map (λ xs. export_of address ∷ xs) o) (exports_are frame first count functions rest exported behind (interned types (type_of_shim s)) ss (suc place) (suc address) (omega (arith, at)) (omega arith))

abbrev tables_of : List Slot → List TableType
tables_of [] = []
tables_of (s ∷ ss) = table_of_shims (length (s ∷ ss)) ∷ []

-- so are the table and the memory
table_behind : (shims : List Shim) (frame : Frame) (table : ℕ) → frame.tables ≡ range_with_len table (length (tables_of (slots_of [] shims))) → (rest : List CoreExport) (exported : List Export) → all_some (map (export_at frame) rest) ≡ Some exported →
    all_some (map (export_at frame) (table_exports (functions_of [] shims) ++ rest)) ≡ Some (table_exported shims table ++ exported)
table_behind [] frame table tables rest exported behind = behind
table_behind (s ∷ ss) frame table tables rest exported behind =
    let export_of : ℕ → Export = λ a. record { space = spaces.CoreTable; name = codes "$imports"; address = a } in
    ap (λ (l : List ℕ). all_some (option_map export_of (slice_get l 0) ∷ map (export_at frame) rest)) tables
    ∙ ap (λ o. option_map (λ xs. export_of table ∷ xs) o) behind

memory_behind : (memory : Option MemoryType) (code : Store) (frame : Frame) → frame.memories ≡ range_with_len (length code.memories) (length (memories_of memory)) → (rest : List CoreExport) (exported : List Export) → all_some (map (export_at frame) rest) ≡ Some exported →
    all_some (map (export_at frame) (memory_exports memory ++ rest)) ≡ Some (memory_exported (memory_address memory code) ++ exported)
memory_behind None code frame memories rest exported behind = behind
memory_behind (Some type) code frame memories rest exported behind =
    ap (λ (l : List ℕ). all_some (option_map memory_at (slice_get l 0) ∷ map (export_at frame) rest)) memories
    ∙ ap (λ o. option_map (λ xs. memory_at (length code.memories) ∷ xs) o) behind

-- and the functions of the cell, behind so many others
cell_behind : (cell : Option ValType) (types : List FuncType) (frame : Frame) (first n count : ℕ) → frame.functions ≡ range_with_len first count → n + cell_count cell ≤ count →
    all_some (map (export_at frame) (cell_exports n (cell_of cell types))) ≡ Some (cell_exported cell (first + n))
cell_behind None types frame first n count functions room = refl
cell_behind (Some type) types frame first n count functions room =
    let getter : ℕ → Export = λ a. exported_function getter_name a in
    let setter : ℕ → Export = λ a. exported_function setter_name a in
    let e : first + (n + 1) ≡ first + n + 1 = omega arith in
    let own : slice_get frame.functions n ≡ Some (first + n) = ap (λ l. slice_get l n) functions ∙ range_at first count n (omega (arith, room)) in
    let next : slice_get frame.functions (n + 1) ≡ Some (first + n + 1) = ap (λ l. slice_get l (n + 1)) functions ∙ range_at first count (n + 1) (omega (arith, room)) ∙ ap (λ k. Some k) e in
    ap (λ o. all_some (option_map getter o ∷ option_map setter (slice_get frame.functions (n + 1)) ∷ [])) own
    ∙ ap (λ o. all_some (Some (getter (first + n)) ∷ option_map setter o ∷ [])) next

all_exported : (memory : Option MemoryType) (cell : Option ValType) (shims : List Shim) (types : List FuncType) (code : Store) (frame : Frame) (count : ℕ) → frame.functions ≡ range_with_len (length code.functions) count → length shims + cell_count cell ≤ count →
    frame.tables ≡ range_with_len (length code.tables) (length (tables_of (slots_of [] shims))) → frame.memories ≡ range_with_len (length code.memories) (length (memories_of memory)) →
    all_some (map (export_at frame) (exports_of memory (cell_of cell types) (functions_of [] shims))) ≡ Some (instance_exports shims (length code.functions) (length code.tables) (memory_address memory code) cell)
all_exported memory cell shims types code frame count functions room tables memories =
    let first = length code.functions in
    let table = length code.tables in
    let n = length (functions_of [] shims) in
    let as_many : n ≡ length shims = count_of_functions [] shims in
    let of_cell : List CoreExport = cell_exports n (cell_of cell types) in
    let cell_there : all_some (map (export_at frame) of_cell) ≡ Some (cell_exported cell (first + length shims)) =
    cell_behind cell types frame first n count functions (omega (arith, as_many, room)) ∙ ap (λ k. Some (cell_exported cell (first + k))) as_many in
    let memory_there = memory_behind memory code frame memories of_cell (cell_exported cell (first + length shims)) cell_there in
    let table_there = table_behind shims frame table tables (memory_exports memory ++ of_cell) (memory_exported (memory_address memory code) ++ cell_exported cell (first + length shims)) memory_there in
    exports_are frame first count functions (table_exports (functions_of [] shims) ++ (memory_exports memory ++ of_cell)) (table_exported shims table ++ (memory_exported (memory_address memory code) ++ cell_exported cell (first + length shims))) table_there [] shims 0 first (omega arith) (omega (arith, room))

-- ---- the functions

-- each function is the shim of its place, whatever is behind them
are_shims : (code : Store) (frame : Frame) (table : ℕ) → slice_get frame.tables 0 ≡ Some table → (types : List FuncType) (shims : List Shim) (before more : List Func) (place address k : ℕ) → code.functions ≡ before ++ (table_functions frame k (slots_of types shims) ++ more) →
    address ≡ length before → k ≡ place → Typed frame.types (slots_of types shims) → AreShimsFrom code table place address shims
are_shims code frame table names_table types [] before more place address k functions at same typed = tt
are_shims code frame table names_table types (s ∷ ss) before more place address k functions at same typed =
    let type = type_of_shim s in
    let index = type_index types type in
    let function_of : ℕ → Func = λ n. Generated frame type [] ((table_shim (length type.params) n index).instructions) in
    let rest = table_functions frame (k + 1) (slots_of (interned types type) ss) ++ more in
    let after : length (before ++ function_of k ∷ []) ≡ length before + 1 = length-append before (function_of k ∷ []) in (
      record {
        frame = frame;
        index = index;
        body = ap (λ l. slice_get l address) functions ∙ ap (λ n. slice_get (before ++ function_of k ∷ rest) n) at ∙ (has_all (function_of k ∷ rest) before).0 ∙ ap (λ n. Some (function_of n)) same;
        typed = typed.0;
        table_is = names_table;
      },
      are_shims code frame table names_table (interned types type) ss (before ++ function_of k ∷ []) more (suc place) (suc address) (k + 1) (functions ∙ sym (append_assoc before (function_of k ∷ []) rest)) (omega (arith, at, after)) (omega (arith, same)) typed.1,
    )

-- the functions of a cell of a type
abbrev cell_functions : Frame → ValType → List Func
cell_functions frame type = Generated frame (getter_type type) [] ((tls_get 0).instructions) ∷ Generated frame (setter_type type) [] ((tls_set 0).instructions) ∷ []

-- all functions: those of the cell behind the shims, where there is one
abbrev functions_with : Option ValType → Frame → List Slot → List Func
functions_with None frame slots = table_functions frame 0 slots
functions_with (Some type) frame slots = table_functions frame 0 slots ++ cell_functions frame type

table_functions_length : (frame : Frame) (k : ℕ) (slots : List Slot) → length (table_functions frame k slots) ≡ length slots
table_functions_length frame k [] = refl
table_functions_length frame k (s ∷ ss) = ap suc (table_functions_length frame (k + 1) ss)

-- ---- the module

-- the parts of a module of shims with these tables and memories
abbrev parts_with : List FuncType → List Slot → List TableType → List MemoryType → Parts
parts_with types slots tables memories = record (shim_parts types slots) { tables = tables; memories = memories }

parts_are : (memory : Option MemoryType) (cell : Option ThreadCell) (types : List FuncType) (slots : List Slot) → module_parts memory cell types slots ≡ laws.with_cell cell (parts_with types slots (tables_of slots) (memories_of memory))
parts_are memory cell types [] = refl
parts_are memory cell types (s ∷ ss) = refl

-- those of the module of these shims
abbrev parts_of_module : Option MemoryType → Option ValType → List Shim → Parts
parts_of_module memory cell shims =
    let types = types_with [] shims in
    let slots = slots_of [] shims in
    laws.with_cell (cell_of cell types) (parts_with (with_cell_types cell types) slots (tables_of slots) (memories_of memory))

own_functions_are : (frame : Frame) (k : ℕ) (slots : List Slot) → Typed frame.types slots → own_functions frame (map (λ (s : Slot). s.index) slots) (table_shims k (map shim_of slots)) ≡ Some (table_functions frame k slots)
own_functions_are frame k [] h = refl
own_functions_are frame k (s ∷ ss) h =
    let code = (table_shim (length s.type.params) k s.index).instructions in
    ap (λ o. cons_if (option_map (λ type. Generated frame type [] code) o) (own_functions frame (map (λ (x : Slot). x.index) ss) (table_shims (k + 1) (map shim_of ss)))) h.0
    ∙ ap (λ o. cons_if (Some (Generated frame s.type [] code)) o) (own_functions_are frame (k + 1) ss h.1)

-- the same with functions behind them
own_functions_behind : (frame : Frame) (more : List ℕ) (bodies : List Body) (functions : List Func) → own_functions frame more bodies ≡ Some functions → (k : ℕ) (slots : List Slot) → Typed frame.types slots →
    own_functions frame (map (λ (s : Slot). s.index) slots ++ more) (table_shims k (map shim_of slots) ++ bodies) ≡ Some (table_functions frame k slots ++ functions)
own_functions_behind frame more bodies functions behind k [] h = behind
own_functions_behind frame more bodies functions behind k (s ∷ ss) h =
    let code = (table_shim (length s.type.params) k s.index).instructions in
    ap (λ o. cons_if (option_map (λ type. Generated frame type [] code) o) (own_functions frame (map (λ (x : Slot). x.index) ss ++ more) (table_shims (k + 1) (map shim_of ss) ++ bodies))) h.0
    ∙ ap (λ o. cons_if (Some (Generated frame s.type [] code)) o) (own_functions_behind frame more bodies functions behind (k + 1) ss h.1)

-- those of the cell, by the indices of their types
cell_functions_are : (frame : Frame) (type : ValType) (getter setter : ℕ) → slice_get frame.types getter ≡ Some (getter_type type) → slice_get frame.types setter ≡ Some (setter_type type) → own_functions frame (getter ∷ setter ∷ []) (tls_get 0 ∷ tls_set 0 ∷ []) ≡ Some (cell_functions frame type)
cell_functions_are frame type getter setter gets sets =
    ap (λ o. cons_if (option_map (λ t. Generated frame t [] ((tls_get 0).instructions)) o) (own_functions frame (setter ∷ []) (tls_set 0 ∷ []))) gets
    ∙ ap (λ o. cons_if (Some (Generated frame (getter_type type) [] ((tls_get 0).instructions))) (cons_if (option_map (λ t. Generated frame t [] ((tls_set 0).instructions)) o) (Some []))) sets

-- ---- what making an instance of it leaves

-- the frame of an instance that is made behind so many globals
abbrev frame_at : Parts → Store → ℕ → Frame
frame_at m code globals = record {
  types = m.types;
  functions = range_with_len (length code.functions) (length m.functions);
  tables = range_with_len (length code.tables) (length m.tables);
  globals = range_with_len globals (length m.globals);
  memories = range_with_len (length code.memories) (length m.memories);
}

abbrev cell_globals : Option ValType → List Cell
cell_globals None = []
cell_globals (Some type) = Kept type (zero_of type) ∷ []

abbrev made_with : Option ValType → List Slot → List TableType → List MemoryType → Store → Frame → Now → Made
made_with cell slots tables memories code frame now = record {
  frame = frame;
  store = record { functions = code.functions ++ functions_with cell frame slots; tables = code.tables ++ own_tables tables; memories = code.memories ++ memories };
  now = record now { globals = now.globals ++ cell_globals cell };
}

abbrev one_global : ValType → ℕ → ℕ → ThreadCell
one_global type getter setter = record { val_type = type; getter_type = getter; setter_type = setter }

cell_is_made : (type : ValType) → ((frame : Frame) (getter setter : ℕ) → own_globals frame (cell_global (one_global type getter setter) ∷ []) ≡ Some (Kept type (zero_of type) ∷ [])) →
    (types : List FuncType) (slots : List Slot) (tables : List TableType) (memories : List MemoryType) (code : Store) (now : Now) → Typed types slots →
    instance_of (laws.with_cell (cell_of (Some type) types) (parts_with (with_cell_types (Some type) types) slots tables memories)) [] code now
    ≡ Some (made_with (Some type) slots tables memories code (frame_at (laws.with_cell (cell_of (Some type) types) (parts_with (with_cell_types (Some type) types) slots tables memories)) code (length now.globals)) now)
cell_is_made type is_zero types slots tables memories code now typed =
    let gets = getter_type type in
    let sets = setter_type type in
    let between = interned types gets in
    let getter = type_index types gets in
    let setter = type_index between sets in
    let m = laws.with_cell (cell_of (Some type) types) (parts_with (with_cell_types (Some type) types) slots tables memories) in
    let frame = frame_at m code (length now.globals) in
    let all_typed : Typed (interned between sets) slots = typed_kept between sets slots (typed_kept types gets slots typed) in
    let of_cell : own_functions frame (getter ∷ setter ∷ []) (tls_get 0 ∷ tls_set 0 ∷ []) ≡ Some (cell_functions frame type) =
    cell_functions_are frame type getter setter (type_kept between sets gets getter (type_at types gets)) (type_at between sets) in
    ap (λ o. made_of m frame code now o (own_globals frame m.globals)) (own_functions_behind frame (getter ∷ setter ∷ []) (tls_get 0 ∷ tls_set 0 ∷ []) (cell_functions frame type) of_cell 0 slots all_typed)
    ∙ ap (λ o. made_of m frame code now (Some (functions_with (Some type) frame slots)) o) (is_zero frame getter setter)

is_made : (cell : Option ValType) → IsOfAddresses cell → (types : List FuncType) (slots : List Slot) (tables : List TableType) (memories : List MemoryType) (code : Store) (now : Now) → Typed types slots →
    instance_of (laws.with_cell (cell_of cell types) (parts_with (with_cell_types cell types) slots tables memories)) [] code now
    ≡ Some (made_with cell slots tables memories code (frame_at (laws.with_cell (cell_of cell types) (parts_with (with_cell_types cell types) slots tables memories)) code (length now.globals)) now)
is_made None addresses types slots tables memories code now typed =
    let m = parts_with types slots tables memories in
    let frame = frame_at m code (length now.globals) in
    ap (λ o. made_of m frame code now o (Some [])) (own_functions_are frame 0 slots typed)
is_made (Some I32) addresses types slots tables memories code now typed = cell_is_made I32 (λ frame getter setter. refl) types slots tables memories code now typed
is_made (Some I64) addresses types slots tables memories code now typed = cell_is_made I64 (λ frame getter setter. refl) types slots tables memories code now typed
is_made (Some F32) addresses types slots tables memories code now typed = absurd addresses
is_made (Some F64) addresses types slots tables memories code now typed = absurd addresses
is_made (Some (Ref type)) addresses types slots tables memories code now typed = absurd addresses

-- the cell changes no table and no memory of the module, and there is no start function
tables_alone : (cell : Option ThreadCell) (m : Parts) → (laws.with_cell cell m).tables ≡ m.tables
tables_alone None m = refl
tables_alone (Some c) m = refl

memories_alone : (cell : Option ThreadCell) (m : Parts) → (laws.with_cell cell m).memories ≡ m.memories
memories_alone None m = refl
memories_alone (Some c) m = refl

nothing_started : (cell : Option ThreadCell) (types : List FuncType) (slots : List Slot) (tables : List TableType) (memories : List MemoryType) (made : Made) → started (laws.with_cell cell (parts_with types slots tables memories)) made ≡ core.Returned [] made.now
nothing_started None types slots tables memories made = refl
nothing_started (Some c) types slots tables memories made = refl

-- the types are those of all functions, of which there are so many
typed_all : (cell : Option ValType) (types : List FuncType) (slots : List Slot) (m : Parts) → m.types ≡ with_cell_types cell types → Typed types slots → Typed (laws.with_cell (cell_of cell types) m).types slots
typed_all None types slots m same h = subst (λ (ts : List FuncType). Typed ts slots) (sym same) h
typed_all (Some type) types slots m same h =
    let between = interned types (getter_type type) in
    subst (λ (ts : List FuncType). Typed ts slots) (sym same) (typed_kept between (setter_type type) slots (typed_kept types (getter_type type) slots h))

all_functions : (memory : Option MemoryType) (cell : Option ValType) (shims : List Shim) → length (parts_of_module memory cell shims).functions ≡ length shims + cell_count cell
all_functions memory None shims =
    let n = length shims in
    let e : n ≡ n + 0 = omega arith in
    length-map (slots_of [] shims) (λ (s : Slot). s.index) ∙ slots_length [] shims ∙ e
all_functions memory (Some type) shims =
    let types = types_with [] shims in
    let indices = map (λ (s : Slot). s.index) (slots_of [] shims) in
    let more = type_index types (getter_type type) ∷ type_index (interned types (getter_type type)) (setter_type type) ∷ [] in
    let as_many : length indices ≡ length shims = length-map (slots_of [] shims) (λ (s : Slot). s.index) ∙ slots_length [] shims in
    length-append indices more ∙ ap (λ n. n + 2) as_many

-- and are at the ends of the store's lists
tables_more : (shims : List Shim) (tables : List (List (Option ℕ))) → tables ++ own_tables (tables_of (slots_of [] shims)) ≡ with_shim_table shims tables
tables_more [] tables = append-nil tables
tables_more (s ∷ ss) tables = ap (λ n. tables ++ empty_table (suc n) ∷ []) (slots_length (interned [] (type_of_shim s)) ss)

memories_more : (memory : Option MemoryType) (memories : List MemoryType) → memories ++ memories_of memory ≡ with_memory memory memories
memories_more None memories = append-nil memories
memories_more (Some m) memories = refl

globals_more : (cell : Option ValType) (now : Now) → record now { globals = now.globals ++ cell_globals cell } ≡ with_cell cell now
globals_more None now = ap (λ (l : List Cell). record now { globals = l }) (append-nil now.globals)
globals_more (Some type) now = refl

-- ---- the instance

abbrev frame_of : Option MemoryType → Option ValType → List Shim → Store → ℕ → Frame
frame_of memory cell shims code globals = frame_at (parts_of_module memory cell shims) code globals

abbrev shim_functions : Option MemoryType → Option ValType → List Shim → Store → ℕ → List Func
shim_functions memory cell shims code globals = functions_with cell (frame_of memory cell shims code globals) (slots_of [] shims)

-- all functions are the shims, and those of the cell
split_functions : (cell : Option ValType) (frame : Frame) (slots : List Slot) → (more : List Func) × (functions_with cell frame slots ≡ table_functions frame 0 slots ++ more)
split_functions None frame slots = ([], sym (append-nil (table_functions frame 0 slots)))
split_functions (Some type) frame slots = (cell_functions frame type, refl)

all_are_shims : (memory : Option MemoryType) (cell : Option ValType) (shims : List Shim) (code : Store) (globals : ℕ) → AreShimsFrom (with_shims memory shims (shim_functions memory cell shims code globals) code) (length code.tables) 0 (length code.functions) shims
all_are_shims memory cell [] code globals = tt
all_are_shims memory cell (s ∷ ss) code globals =
    let shims = s ∷ ss in
    let types = types_with [] shims in
    let slots = slots_of [] shims in
    let m = parts_with (with_cell_types cell types) slots (tables_of slots) (memories_of memory) in
    let frame = frame_of memory cell shims code globals in
    let split = split_functions cell frame slots in
    are_shims (with_shims memory shims (shim_functions memory cell shims code globals) code) frame (length code.tables)
    (ap (λ (l : List TableType). slice_get (range_with_len (length code.tables) (length l)) 0) (tables_alone (cell_of cell types) m))
    [] shims code.functions split.0 0 (length code.functions) 0 (ap (λ l. code.functions ++ l) split.1) refl refl (typed_all cell types slots m refl (typed_slots [] shims))

of_cell : (memory : Option MemoryType) (cell : Option ValType) (shims : List Shim) (code : Store) (globals : ℕ) → AreOfCell (with_shims memory shims (shim_functions memory cell shims code globals) code) cell globals (length code.functions + length shims)
of_cell memory None shims code globals = tt
of_cell memory (Some type) shims code globals =
    let frame = frame_of memory (Some type) shims code globals in
    let own = table_functions frame 0 (slots_of [] shims) in
    let more = cell_functions frame type in
    let before = code.functions ++ own in
    let as_many : length own ≡ length shims = table_functions_length frame 0 (slots_of [] shims) ∙ slots_length [] shims in
    let at : length before ≡ length code.functions + length shims = length-append code.functions own ∙ ap (λ n. length code.functions + n) as_many in
    let all = has_all more before in
    let there : (i : ℕ) (function : Func) → slice_get (before ++ more) (length before + i) ≡ Some function → slice_get (code.functions ++ (own ++ more)) (length code.functions + length shims + i) ≡ Some function =
    λ i function h. ap (λ (l : List Func). slice_get l (length code.functions + length shims + i)) (sym (append_assoc code.functions own more)) ∙ ap (λ n. slice_get (before ++ more) (n + i)) (sym at) ∙ h in
    let z : length before + 0 ≡ length before = omega arith in
    let y : length code.functions + length shims + 0 ≡ length code.functions + length shims = omega arith in
    let getter = Generated frame (getter_type type) [] ((tls_get 0).instructions) in
    let setter = Generated frame (setter_type type) [] ((tls_set 0).instructions) in (
      record {
        frame = frame;
        local = 0;
        has = ap (λ n. slice_get (code.functions ++ (own ++ more)) n) (sym y) ∙ there 0 getter (ap (λ n. slice_get (before ++ more) n) z ∙ all.0);
        names = refl;
      },
      record { frame = frame; local = 0; has = there 1 setter all.1.0; names = refl },
    )

pub shims_run : (memory : Option MemoryType) (cell : Option ValType) (shims : List Shim) (debug_names : Bool) (globals number : ℕ) (c : Scope) (s : RunStore) → IsOfAddresses cell → ShimsRun memory cell shims debug_names globals number c s
shims_run memory cell shims debug_names globals number c s addresses =
    let code = s.code in
    let types = types_with [] shims in
    let all_types = with_cell_types cell types in
    let slots = slots_of [] shims in
    let tables = tables_of slots in
    let memories = memories_of memory in
    let thread = cell_of cell types in
    let plain = parts_with all_types slots tables memories in
    let m = parts_of_module memory cell shims in
    let frame = frame_of memory cell shims code globals in
    let functions = shim_functions memory cell shims code globals in
    let first = length code.functions in
    let exports = instance_exports shims first (length code.tables) (memory_address memory code) cell in
    let made : Now → Made = λ now. made_with cell slots tables memories code frame now in
    let count = length m.functions in
    let as_many : count ≡ length shims + cell_count cell = all_functions memory cell shims in
    let is : (now : Now) (arguments : Arguments) → length now.globals ≡ globals → IsMade (sections_of_shims memory cell shims debug_names) arguments (machine c s now) [] (made now) exports (core.Returned [] (made now).now) = λ now arguments behind. record {
      parts = m;
      externals = [];
      found = ap (λ l. all_some (map (λ (i : CoreImport). argument_for arguments (entity_kind i.entity) i.module_name i.field) l)) (no_imports memory thread all_types (functions_of [] shims) debug_names);
      external_values = refl;
      parts_are = shim_modules_are_shims memory thread all_types (functions_of [] shims) slots debug_names (same_codes [] shims) ∙ parts_are memory thread all_types slots;
      is_made = is_made cell addresses types slots tables memories code now (typed_slots [] shims) ∙ ap (λ n. Some (made_with cell slots tables memories code (frame_at m code n) now)) behind;
      exported = ap (λ l. all_some (map (export_at frame) l)) (exports_alone memory thread all_types (functions_of [] shims) debug_names)
          ∙ all_exported memory cell shims types code frame count refl (omega (arith, as_many))
          (ap (λ (l : List TableType). range_with_len (length code.tables) (length l)) (tables_alone thread plain))
          (ap (λ (l : List MemoryType). range_with_len (length code.memories) (length l)) (memories_alone thread plain));
      starts = nothing_started thread all_types slots tables memories (made now);
    } in
    let with_rest : List (List (Option ℕ)) → List MemoryType → Now → Machine = λ ts ms now. record {
      scope = c;
      store = record s { code = record { functions = code.functions ++ functions; tables = ts; memories = ms } };
      now = now;
    } in
    let after : Machine → Machine = λ x. with_module_instance (record { module_number = number; given = []; exports = exports }) x in
    record {
      functions = functions;
      are = all_are_shims memory cell shims code globals;
      of_cell = of_cell memory cell shims code globals;
      runs = λ now arguments next behind.
          made_runs (sections_of_shims memory cell shims debug_names) number arguments (machine c s now) [] (made now) exports (core.Returned [] (made now).now) (is now arguments behind) next
          ∙ ap (λ l. next (after (with_rest l (code.memories ++ memories) (made now).now))) (tables_more shims code.tables)
          ∙ ap (λ l. next (after (with_rest (with_shim_table shims code.tables) l (made now).now))) (memories_more memory code.memories)
          ∙ ap (λ l. next (after (with_rest (with_shim_table shims code.tables) (with_memory memory code.memories) l))) (globals_more cell now);
    }

-- ---- what is then in the store

-- where there are shims, their table has an empty slot for each
pub shim_table_there : (memory : Option MemoryType) (shims : List Shim) (functions : List Func) (code : Store) → (shims ≡ [] → ⊥) → slice_get (with_shims memory shims functions code).tables (length code.tables) ≡ Some (empty_table (length shims))
shim_table_there memory [] functions code any = absurd (any refl)
shim_table_there memory (s ∷ ss) functions code any = slice_get-end code.tables (empty_table (length (s ∷ ss)))

-- the memory is there, where there is one
pub shim_memory_there : (type : MemoryType) (shims : List Shim) (functions : List Func) (code : Store) → slice_get (with_shims (Some type) shims functions code).memories (length code.memories) ≡ Some type
shim_memory_there type shims functions code = slice_get-end code.memories type

-- and what was there is where it was
pub shim_tables_kept : (shims : List Shim) (tables : List (List (Option ℕ))) (i : ℕ) (slots : List (Option ℕ)) → slice_get tables i ≡ Some slots → slice_get (with_shim_table shims tables) i ≡ Some slots
shim_tables_kept [] tables i slots e = e
shim_tables_kept (s ∷ ss) tables i slots e = slice_get-append tables (empty_table (length (s ∷ ss)) ∷ []) i slots e

pub shim_memories_kept : (memory : Option MemoryType) (memories : List MemoryType) (i : ℕ) (type : MemoryType) → slice_get memories i ≡ Some type → slice_get (with_memory memory memories) i ≡ Some type
shim_memories_kept None memories i type e = e
shim_memories_kept (Some new) memories i type e = slice_get-append memories (new ∷ []) i type e
