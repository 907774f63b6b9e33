-- The stack of an adapter: the globals that say where it is and whether it is there, by their
-- names, and main's realloc, by the names of its import. (The names are those that the tools for
-- WebAssembly's components know; debug names: WebAssembly core specification, appendix, custom
-- sections.)
use Rattle.std.specs.Prelude.{ℕ, ◌+◌, ◌==◌, nat_le, Bool, true, false, ◌&&◌, List, [], ◌∷◌, ◌++◌, length, map, filter, codes, Option, Some, None, Result, Ok, Err, if◌then◌else◌}
use Rattle.std.specs.List.{slice_get, list_any}
use Rattle.std.specs.Str.{bytes_eq}
use Rattle.core_sections.specs.declared.entries.ValType.{ValType}
use Rattle.core_sections.specs.declared.entries.ValType.TheVariants as vals
use Rattle.core_sections.specs.declared.entries.FuncType.{FuncType}
use Rattle.core_sections.specs.declared.entries.EntityType.{EntityType}
use Rattle.core_sections.specs.declared.entries.EntityType.TheVariants as entities
use Rattle.core_sections.specs.declared.entries.CoreImport.{CoreImport}
use Rattle.core_sections.specs.Sections.{Body, custom, coded}
use Rattle.core_parts.specs.Names.{Named, global_names_of}
use Rattle.adapter_fitting.specs.declared.fault.Refusal.{Refusal}
use Rattle.adapter_fitting.specs.declared.fault.Refusal.TheVariants as refusals
use Rattle.adapter_fitting.specs.declared.stack.StackGlobals.{StackGlobals}
use Rattle.adapter_fitting.specs.declared.realloc.ReallocImport.{ReallocImport}
use Rattle.adapter_fitting.specs.Faults.{◌>>=◌, or_refused}
use Rattle.adapter_fitting.specs.Places.{Placed, bytes_in}

-- ---- globals

-- whether a section is one of names
abbrev pub has_names : Body → Bool
has_names (custom name bytes) = bytes_eq name (codes "name")
has_names (coded id bytes) = false

-- the names of globals that a section holds
abbrev pub names_in : Placed → Result (List Named) Refusal
names_in s = if has_names s.piece.body then or_refused (refusals.Names s.place) (global_names_of (bytes_in s.piece.body)) else Ok []

abbrev pub names_of : List Placed → Result (List Named) Refusal
names_of [] = Ok []
names_of (s ∷ ss) = names_in s >>= λ here. names_of ss >>= λ more. Ok (here ++ more)

-- a global of 32 bits that may be set
abbrev pub is_variable : Option EntityType → Bool
is_variable (Some (entities.Global vals.I32 mutable)) = mutable
is_variable e = false

-- a variable of this name that the module defines: those that it imports are before the first of these
abbrev pub is_variable_of : List EntityType → ℕ → List ℕ → Named → Bool
is_variable_of globals first name n = bytes_eq n.name name && (nat_le first n.index && is_variable (slice_get globals n.index))

-- the indices of the variables with this name
abbrev pub variables : List EntityType → ℕ → List ℕ → List Named → List ℕ
variables globals first name ns = map (λ n. n.index) (filter (is_variable_of globals first name) ns)

-- the one that there is, if there is one
abbrev pub the_one : List ℕ → Result (Option ℕ) Refusal
the_one [] = Ok None
the_one (i ∷ more) = if length more == 0 then Ok (Some i) else Err refusals.ManyGlobals

-- a stack has a pointer and a state
abbrev pub both : Option ℕ → Option ℕ → Result (Option StackGlobals) Refusal
both (Some pointer) (Some state) = Ok (Some (record { pointer = pointer; state = state }))
both (Some pointer) None = Err refusals.NoState
both None state = Ok None

-- the globals of the stack: the pointer to its end, and the state, which is 0 where the stack isn't there yet
abbrev pub stack_of : List EntityType → ℕ → List Named → Result (Option StackGlobals) Refusal
stack_of globals first ns =
    the_one (variables globals first (codes "__stack_pointer") ns) >>= λ pointer.
    the_one (variables globals first (codes "allocation_state") ns) >>= λ state.
    both pointer state

-- the globals of the stack that these sections name
abbrev pub stack_in : List EntityType → ℕ → List Placed → Result (Option StackGlobals) Refusal
stack_in globals first ss = names_of ss >>= stack_of globals first

-- ---- main's realloc

abbrev pub is_realloc : CoreImport → Bool
is_realloc i = bytes_eq i.«module» (codes "__main_module__") && bytes_eq i.field (codes "cabi_realloc")

-- one more function, if this is one
abbrev pub functions_after : ℕ → EntityType → ℕ
functions_after index (entities.Function type) = index + 1
functions_after index e = index

-- the index of the type, if this is a function
abbrev pub function_type_of : EntityType → Option ℕ
function_type_of (entities.Function type) = Some type
function_type_of e = None

abbrev pub realloc_import : ℕ → CoreImport → Option ReallocImport
realloc_import index i =
    if is_realloc i then elim (function_type_of i.entity) [ None ↦ None | Some type ↦ Some (record { index = index; type_index = type }) ] else None

-- the first import of main's realloc, where this many functions are imported before
abbrev pub realloc_from : ℕ → List CoreImport → Option ReallocImport
realloc_from index [] = None
realloc_from index (i ∷ is) = elim (realloc_import index i) [ None ↦ realloc_from (functions_after index i.entity) is | Some r ↦ Some r ]

-- how many functions are imported
abbrev pub imported_from : ℕ → List CoreImport → ℕ
imported_from index [] = index
imported_from index (i ∷ is) = imported_from (functions_after index i.entity) is

-- ---- what else is imported

-- one more global, if this is one
abbrev pub globals_after : ℕ → EntityType → ℕ
globals_after index (entities.Global type mutable) = index + 1
globals_after index e = index

-- how many globals are imported
abbrev pub globals_from : ℕ → List CoreImport → ℕ
globals_from index [] = index
globals_from index (i ∷ is) = globals_from (globals_after index i.entity) is

abbrev pub is_memory : CoreImport → Bool
is_memory i = elim i.entity [ entities.Memory limits ↦ true | e ↦ false ]

-- the memory is another module's
abbrev pub shares_memory : List CoreImport → Bool
shares_memory is = list_any is_memory is

-- ---- types

abbrev pub is_i32 : ValType → Bool
is_i32 vals.I32 = true
is_i32 t = false

abbrev pub are_i32 : ℕ → List ValType → Bool
are_i32 count ts = length ts == count && (length (filter is_i32 ts) == count)

-- four numbers of 32 bits, and one as the result
abbrev pub is_realloc_type : Option FuncType → Bool
is_realloc_type None = false
is_realloc_type (Some t) = are_i32 4 t.params && are_i32 1 t.results
