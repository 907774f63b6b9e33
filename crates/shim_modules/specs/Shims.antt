-- The module of shims in the table form, as a list of sections. A user module that imports its
-- memory gets it from there too, and all that use the thread-local base get the functions of one
-- cell. Core standard, structure: modules; appendix, custom sections: name section.
use Rattle.std.specs.Prelude.{ℕ, suc, ◌+◌, pos, Bool, true, false, List, [], ◌∷◌, ◌++◌, map, length, Option, Some, None}
use Rattle.std.specs.Fmt.{decimal}
use Rattle.std.specs.Prelude.{codes}
use Rattle.standard_kinds.specs.declared.kinds.ExportKind.TheVariants as kinds
use Rattle.core_types.specs.declared.types.FuncType.{FuncType}
use Rattle.core_types.specs.declared.types.MemoryType.{MemoryType}
use Rattle.core_types.specs.declared.types.ValType.{ValType}
use Rattle.core_types.specs.declared.types.ValType.TheVariants.{I64}
use Rattle.core_bytes.specs.declared.code.Body.{Body}
use Rattle.core_bytes.specs.declared.entity.ConstExpr.{ConstExpr}
use Rattle.core_bytes.specs.declared.entity.ConstExpr.TheVariants as constants
use Rattle.core_bytes.specs.declared.entry.DefinedGlobal.{DefinedGlobal}
use Rattle.core_bytes.specs.declared.entry.Export.{Export}
use Rattle.core_bytes.specs.declared.entry.Naming.{Naming}
use Rattle.core_bytes.specs.declared.section.Section.{Section}
use Rattle.core_bytes.specs.declared.section.Section.TheVariants as sections
use Rattle.core_runs.specs.Bodies.{table_shims, table_of_shims, tls_get, tls_set}
use Rattle.shim_modules.specs.declared.shims.ShimFunction.{ShimFunction}
use Rattle.shim_modules.specs.declared.shims.ThreadCell.{ThreadCell}

-- each shim is exported under the decimal digits of its number, from this number on
abbrev pub shim_exports : ℕ → List ShimFunction → List Export
shim_exports number [] = []
shim_exports number (s ∷ ss) = record { name = decimal number; kind = kinds.Func; index = number } ∷ shim_exports (suc number) ss

-- the table is exported for the module that fills it, where there are shims
abbrev pub table_export : Export
table_export = record { name = codes "$imports"; kind = kinds.Table; index = 0 }

abbrev pub table_exports : List ShimFunction → List Export
table_exports [] = []
table_exports (s ∷ ss) = table_export ∷ []

-- the memory is exported for the module that imports it, where there is one
abbrev pub memory_export : Export
memory_export = record { name = codes "$memory"; kind = kinds.Memory; index = 0 }

abbrev pub memory_exports : Option MemoryType → List Export
memory_exports None = []
memory_exports (Some type) = memory_export ∷ []

-- ---- the cell

abbrev pub getter_name : List ℕ
getter_name = codes "$get-tls-base"

abbrev pub setter_name : List ℕ
setter_name = codes "$set-tls-base"

-- the two functions come behind the shims, of which there are so many: first the one that reads the cell
abbrev pub cell_exports : ℕ → Option ThreadCell → List Export
cell_exports count None = []
cell_exports count (Some c) = record { name = getter_name; kind = kinds.Func; index = count } ∷ record { name = setter_name; kind = kinds.Func; index = count + 1 } ∷ []

abbrev pub cell_names : ℕ → Option ThreadCell → List Naming
cell_names count None = []
cell_names count (Some c) = record { index = count; name = getter_name } ∷ record { index = count + 1; name = setter_name } ∷ []

-- their types, by index, and their bodies
abbrev pub cell_types : Option ThreadCell → List ℕ
cell_types None = []
cell_types (Some c) = c.getter_type ∷ c.setter_type ∷ []

abbrev pub cell_bodies : Option ThreadCell → List Body
cell_bodies None = []
cell_bodies (Some c) = tls_get 0 ∷ tls_set 0 ∷ []

-- what a cell of a type of numbers holds at first
abbrev pub zero_constant : ValType → ConstExpr
zero_constant I64 = constants.I64 (pos 0)
zero_constant type = constants.I32 (pos 0)

abbrev pub cell_global : ThreadCell → DefinedGlobal
cell_global c = record { global_type = record { val_type = c.val_type; mutable = true }; init = zero_constant c.val_type }

-- ---- the parts

-- the debug names of the shims, from this number on
abbrev pub shim_names : ℕ → List ShimFunction → List Naming
shim_names number [] = []
shim_names number (s ∷ ss) = record { index = number; name = s.debug_name } ∷ shim_names (suc number) ss

-- the section with the names of the module and of its functions, where it is asked for
abbrev pub names_of : Bool → Option ThreadCell → List ShimFunction → List Section
names_of false cell shims = []
names_of true cell shims = sections.Names (record { module_name = codes "wit-component:shim"; functions = Some (shim_names 0 shims ++ cell_names (length shims) cell); globals = None }) ∷ []

-- a section that is written only where there are shims, or where there are functions: shims, or those of a cell
abbrev pub where_any : List ShimFunction → Section → List Section
where_any [] section = []
where_any (s ∷ ss) section = section ∷ []

abbrev pub where_functions : Option ThreadCell → List ShimFunction → Section → List Section
where_functions None [] section = []
where_functions None (s ∷ ss) section = section ∷ []
where_functions (Some c) shims section = section ∷ []

-- the section of the one memory, where there is one
abbrev pub memory_section : Option MemoryType → List Section
memory_section None = []
memory_section (Some type) = sections.Memories (type ∷ []) ∷ []

-- the section of the cell's global, where there is a cell
abbrev pub global_section : Option ThreadCell → List Section
global_section None = []
global_section (Some c) = sections.Globals (cell_global c ∷ []) ∷ []

-- the types of all functions by index, and their bodies: a shim calls through the slot of its number in the one table
abbrev pub function_types : Option ThreadCell → List ShimFunction → List ℕ
function_types cell shims = map (λ s. s.code.type_index) shims ++ cell_types cell

abbrev pub function_bodies : Option ThreadCell → List ShimFunction → List Body
function_bodies cell shims = table_shims 0 (map (λ s. s.code) shims) ++ cell_bodies cell

-- the sections of functions, of the shims' table and of the code
abbrev pub function_section : Option ThreadCell → List ShimFunction → List Section
function_section cell shims = where_functions cell shims (sections.Functions (function_types cell shims))

abbrev pub table_section : List ShimFunction → List Section
table_section shims = where_any shims (sections.Tables (table_of_shims (length shims) ∷ []))

abbrev pub code_section : Option ThreadCell → List ShimFunction → List Section
code_section cell shims = where_functions cell shims (sections.Code (function_bodies cell shims))

-- what the module defines, before its exports
abbrev pub definitions : Option MemoryType → Option ThreadCell → List FuncType → List ShimFunction → List Section
definitions memory cell types shims = sections.Types types ∷ (function_section cell shims ++ (table_section shims ++ (memory_section memory ++ global_section cell)))

-- the shims, their table, the memory, and the functions of the cell
abbrev pub exports_of : Option MemoryType → Option ThreadCell → List ShimFunction → List Export
exports_of memory cell shims = shim_exports 0 shims ++ (table_exports shims ++ (memory_exports memory ++ cell_exports (length shims) cell))

-- the whole, in the order of sections
abbrev pub shim_sections : Option MemoryType → Option ThreadCell → List FuncType → List ShimFunction → Bool → List Section
shim_sections memory cell types shims debug_names = definitions memory cell types shims ++ (sections.Exports (exports_of memory cell shims) ∷ (code_section cell shims ++ names_of debug_names cell shims))

-- the module, where there are shims, a memory or a cell
abbrev pub shim_module : Option MemoryType → Option ThreadCell → List FuncType → List ShimFunction → Bool → Option (List Section)
shim_module None None types [] debug_names = None
shim_module None None types (s ∷ ss) debug_names = Some (shim_sections None None types (s ∷ ss) debug_names)
shim_module None (Some c) types shims debug_names = Some (shim_sections None (Some c) types shims debug_names)
shim_module (Some type) cell types shims debug_names = Some (shim_sections (Some type) cell types shims debug_names)
