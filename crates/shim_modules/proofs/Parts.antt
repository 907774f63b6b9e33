-- The parts of a module of shims, list by list.
use Rattle.std.proofs.Common.{◌≡◌, ℕ, zero, suc, Option, Some, None, Bool, true, false, List, [], ◌∷◌, ◌++◌, map, length, ap, ◌∙◌, sym, refl, append-nil}
use Rattle.std.proofs.lemmas.List.{length-map}
use Rattle.core_types.specs.declared.types.FuncType.{FuncType}
use Rattle.core_types.specs.declared.types.MemoryType.{MemoryType}
use Rattle.core_types.specs.declared.types.TableType.{TableType}
use Rattle.core_bytes.specs.declared.code.Body.{Body}
use Rattle.core_bytes.specs.declared.entry.DefinedGlobal.{DefinedGlobal}
use Rattle.core_runs.specs.declared.tables.Shim.{Shim}
use Rattle.core_runs.specs.Instances.{Parts}
use Rattle.core_runs.specs.Bodies.{table_shims, table_of_shims}
use Rattle.core_bytes.specs.declared.section.Section.{Section}
use Rattle.core_bytes.specs.declared.section.Section.TheVariants as sections
use Rattle.core_runs.specs.Sections.{parts_of, no_parts, with_section}
use Rattle.core_runs.specs.LawsOfInstances.{Slot, shim_of}
use Rattle.shim_modules.specs.declared.shims.ShimFunction.{ShimFunction}
use Rattle.shim_modules.specs.declared.shims.ThreadCell.{ThreadCell}
use Rattle.shim_modules.specs.Shims.{shim_sections, definitions, exports_of, code_section, names_of, function_types, function_bodies, cell_types, cell_bodies, cell_global}
use Rattle.shim_modules.specs.Laws.{memories_of, module_parts, ShimModulesAreShims}

-- the type indices of shims, by their codes and by their slots
indices_of_codes : (shims : List ShimFunction) → map (λ s. s.code.type_index) shims ≡ map (λ (c : Shim). c.type_index) (map (λ s. s.code) shims)
indices_of_codes [] = refl
indices_of_codes (s ∷ ss) = ap (λ l. s.code.type_index ∷ l) (indices_of_codes ss)

indices_of_slots : (slots : List Slot) → map (λ (c : Shim). c.type_index) (map shim_of slots) ≡ map (λ s. s.index) slots
indices_of_slots [] = refl
indices_of_slots (s ∷ ss) = ap (λ l. s.index ∷ l) (indices_of_slots ss)

same_indices : (shims : List ShimFunction) (slots : List Slot) → map (λ s. s.code) shims ≡ map shim_of slots → map (λ s. s.code.type_index) shims ≡ map (λ s. s.index) slots
same_indices shims slots same = indices_of_codes shims ∙ ap (λ codes. map (λ (c : Shim). c.type_index) codes) same ∙ indices_of_slots slots

same_count : (shims : List ShimFunction) (slots : List Slot) → map (λ s. s.code) shims ≡ map shim_of slots → length shims ≡ length slots
same_count shims slots same = sym (length-map shims (λ s. s.code)) ∙ ap length same ∙ length-map slots shim_of

-- ---- without the section of names

-- what stands behind some sections can be exchanged
behind : (first a b : List Section) → parts_of a ≡ parts_of b → parts_of (first ++ a) ≡ parts_of (first ++ b)
behind [] a b same = same
behind (s ∷ ss) a b same = ap (λ rest. with_section s rest) (behind ss a b same)

-- and may be nothing
nothing_behind : (first last : List Section) → parts_of last ≡ no_parts → parts_of (first ++ last) ≡ parts_of first
nothing_behind [] last none = none
nothing_behind (s ∷ ss) last none = ap (λ rest. with_section s rest) (nothing_behind ss last none)

-- the section of names has no part
names_alone : (cell : Option ThreadCell) (shims : List ShimFunction) (debug_names : Bool) → parts_of (names_of debug_names cell shims) ≡ no_parts
names_alone cell shims true = refl
names_alone cell shims false = refl

-- the sections but that of names
abbrev unnamed : Option MemoryType → Option ThreadCell → List FuncType → List ShimFunction → List Section
unnamed memory cell types shims = definitions memory cell types shims ++ (sections.Exports (exports_of memory cell shims) ∷ code_section cell shims)

without_names : (memory : Option MemoryType) (cell : Option ThreadCell) (types : List FuncType) (shims : List ShimFunction) (debug_names : Bool) → parts_of (shim_sections memory cell types shims debug_names) ≡ parts_of (unnamed memory cell types shims)
without_names memory cell types shims debug_names =
    behind (definitions memory cell types shims) (sections.Exports (exports_of memory cell shims) ∷ (code_section cell shims ++ names_of debug_names cell shims)) (sections.Exports (exports_of memory cell shims) ∷ code_section cell shims) (nothing_behind (code_section cell shims) (names_of debug_names cell shims) (names_alone cell shims debug_names))

-- ---- list by list

abbrev parts_of_lists : List FuncType → List ℕ → List TableType → List MemoryType → List DefinedGlobal → List Body → Parts
parts_of_lists types functions tables memories globals bodies = record { types = types; imports = []; functions = functions; tables = tables; memories = memories; globals = globals; start = None; elements = []; bodies = bodies; segments = [] }

-- the table, where there are so many shims
abbrev table_for : ℕ → List TableType
table_for zero = []
table_for (suc n) = table_of_shims (suc n) ∷ []

abbrev globals_of : Option ThreadCell → List DefinedGlobal
globals_of None = []
globals_of (Some c) = cell_global c ∷ []

-- no list goes on behind the one section of its kind
as_written : (memory : Option MemoryType) (cell : Option ThreadCell) (types : List FuncType) (shims : List ShimFunction) →
    parts_of (unnamed memory cell types shims) ≡ parts_of_lists (types ++ []) (function_types cell shims ++ []) (table_for (length shims)) (memories_of memory) (globals_of cell) (function_bodies cell shims ++ [])
as_written None None types [] = refl
as_written None None types (s ∷ ss) = refl
as_written None (Some c) types [] = refl
as_written None (Some c) types (s ∷ ss) = refl
as_written (Some m) None types [] = refl
as_written (Some m) None types (s ∷ ss) = refl
as_written (Some m) (Some c) types [] = refl
as_written (Some m) (Some c) types (s ∷ ss) = refl

rest_gone : (types : List FuncType) (functions : List ℕ) (tables : List TableType) (memories : List MemoryType) (globals : List DefinedGlobal) (bodies : List Body) → parts_of_lists (types ++ []) (functions ++ []) tables memories globals (bodies ++ []) ≡ parts_of_lists types functions tables memories globals bodies
rest_gone types functions tables memories globals bodies =
    ap (λ l. parts_of_lists l (functions ++ []) tables memories globals (bodies ++ [])) (append-nil types)
    ∙ ap (λ l. parts_of_lists types l tables memories globals (bodies ++ [])) (append-nil functions)
    ∙ ap (λ l. parts_of_lists types functions tables memories globals l) (append-nil bodies)

-- ---- by the slots

-- the parts of so many functions of these types, with these codes, and of a cell
abbrev parts_by : Option MemoryType → Option ThreadCell → List FuncType → List ℕ → ℕ → List Shim → Parts
parts_by memory cell types indices count codes = parts_of_lists types (indices ++ cell_types cell) (table_for count) (memories_of memory) (globals_of cell) (table_shims 0 codes ++ cell_bodies cell)

by_slots : (memory : Option MemoryType) (cell : Option ThreadCell) (types : List FuncType) (slots : List Slot) → parts_by memory cell types (map (λ s. s.index) slots) (length slots) (map shim_of slots) ≡ module_parts memory cell types slots
by_slots memory None types [] = refl
by_slots memory None types (t ∷ ts) =
    let slots = t ∷ ts in
    let tables = table_of_shims (length slots) ∷ [] in
    ap (λ l. parts_of_lists types l tables (memories_of memory) [] (table_shims 0 (map shim_of slots) ++ [])) (append-nil (map (λ s. s.index) slots))
    ∙ ap (λ l. parts_of_lists types (map (λ s. s.index) slots) tables (memories_of memory) [] l) (append-nil (table_shims 0 (map shim_of slots)))
by_slots memory (Some c) types [] = refl
by_slots memory (Some c) types (t ∷ ts) = refl

pub shim_modules_are_shims : ShimModulesAreShims
shim_modules_are_shims memory cell types shims slots debug_names same =
    let codes = map (λ s. s.code) shims in
    without_names memory cell types shims debug_names
    ∙ as_written memory cell types shims
    ∙ rest_gone types (function_types cell shims) (table_for (length shims)) (memories_of memory) (globals_of cell) (function_bodies cell shims)
    ∙ ap (λ indices. parts_by memory cell types indices (length shims) codes) (same_indices shims slots same)
    ∙ ap (λ count. parts_by memory cell types (map (λ s. s.index) slots) count codes) (same_count shims slots same)
    ∙ ap (λ cs. parts_by memory cell types (map (λ s. s.index) slots) (length slots) cs) same
    ∙ by_slots memory cell types slots
