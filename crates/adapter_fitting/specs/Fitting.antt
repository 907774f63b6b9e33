-- An adapter that gets its stack when it is first called. (This project's own, after the tools that
-- write such adapters.)
use Rattle.std.specs.Prelude.{ℕ, ◌-◌, ◌==◌, Bool, false, ◌&&◌, is_some, List, [], ◌∷◌, ◌++◌, length, Option, Some, None, Result, Ok, Err, if◌then◌else◌}
use Rattle.std.specs.List.{slice_get, list_all}
use Rattle.byte_encoding.specs.Encoding.{Encoding, ◌⊕◌}
use Rattle.core_sections.specs.Sections.{Piece, pieces_of}
use Rattle.core_sections.specs.Entries.{module_of}
use Rattle.core_sections.specs.declared.core_module.CoreModule.{CoreModule}
use Rattle.core_types.specs.Grammar.{function_type}
use Rattle.core_parts.specs.Functions.{indices_of, bodies_of, instructions_of}
use Rattle.core_parts.specs.declared.exports.ExportedIndex.{ExportedIndex}
use Rattle.module_edits.specs.Additions.{Added, with_function}
use Rattle.adapter_fitting.specs.declared.fault.Refusal.{Refusal}
use Rattle.adapter_fitting.specs.declared.fault.Refusal.TheVariants as refusals
use Rattle.adapter_fitting.specs.declared.stack.StackGlobals.{StackGlobals}
use Rattle.adapter_fitting.specs.declared.realloc.ReallocImport.{ReallocImport}
use Rattle.adapter_fitting.specs.declared.checks.NewIndices.{NewIndices}
use Rattle.adapter_fitting.specs.declared.indices.Indices.{Indices}
use Rattle.adapter_fitting.specs.declared.indices.StackIndices.{StackIndices}
use Rattle.adapter_fitting.specs.Faults.{◌>>=◌, or_refused, of_sections}
use Rattle.adapter_fitting.specs.Places.{Placed, placed, bytes_in, first, misplaced}
use Rattle.adapter_fitting.specs.Segments.{no_data}
use Rattle.adapter_fitting.specs.Stack.{stack_in, realloc_from, imported_from, globals_from, shares_memory, is_realloc_type}
use Rattle.adapter_fitting.specs.Allocation.{allocation_type, allocation}

-- ---- what is read of a module

-- how many types and functions it has, and how many of these are imported
abbrev pub indices_of_module : CoreModule → Indices
indices_of_module m = record { types = length m.types; functions = length m.items.functions; imported = imported_from 0 m.imports }

-- the import of main's realloc, which has to be there and to have its type
abbrev pub with_type : CoreModule → Option ReallocImport → Result ReallocImport Refusal
with_type m None = Err refusals.NoRealloc
with_type m (Some r) = if is_realloc_type (slice_get m.types r.type_index) then Ok r else Err refusals.ReallocType

abbrev pub realloc_of : CoreModule → Result ReallocImport Refusal
realloc_of m = with_type m (realloc_from 0 m.imports)

-- what its stack needs, if it has the globals of one
abbrev pub needed_by : CoreModule → Option StackGlobals → Result (Option StackIndices) Refusal
needed_by m None = Ok None
needed_by m (Some g) = realloc_of m >>= λ r. Ok (Some (record { indices = indices_of_module m; realloc = r.index; globals = g }))

abbrev pub needed_by_names : CoreModule → List Placed → Result (Option StackIndices) Refusal
needed_by_names m ss = stack_in m.items.globals (globals_from 0 m.imports) ss >>= needed_by m

-- only functions of its own need one
abbrev pub stack_needed : CoreModule → List Placed → Result (Option StackIndices) Refusal
stack_needed m ss =
    if length m.items.functions == imported_from 0 m.imports then Ok None else needed_by_names m ss

-- In a memory of its own it may have data and a stack; another module's memory it must not write over.
abbrev pub needed_of : CoreModule → List Placed → Result (Option StackIndices) Refusal
needed_of m ss = if shares_memory m.imports then (no_data ss >>= λ u. stack_needed m ss) else Ok None

-- ---- what has to hold of its sections

abbrev pub in_order : List Placed → Result Unit Refusal
in_order ss = elim (misplaced 0 ss) [ None ↦ Ok tt | Some place ↦ Err (refusals.Order place) ]

-- so many bodies, each of whose locals can be read
abbrev pub are_bodies : ℕ → Option (List (List ℕ)) → Bool
are_bodies count None = false
are_bodies count (Some bs) = length bs == count && list_all (λ b. is_some (instructions_of b)) bs

-- the section of code, or the offset where there is none
abbrev pub has_bodies : ℕ → ℕ → Option Placed → Result Unit Refusal
has_bodies end_place count None = Err (refusals.Code end_place)
has_bodies end_place count (Some s) = if are_bodies count (bodies_of (bytes_in s.piece.body)) then Ok tt else Err (refusals.Code s.place)

abbrev pub exports_in : Option Placed → Result (List ExportedIndex) Refusal
exports_in None = Ok []
exports_in (Some s) = or_refused (refusals.Section s.place) (indices_of (bytes_in s.piece.body))

-- its exports, where the sections are in order and have a body for each function that isn't imported
abbrev pub exports_of : ℕ → Indices → List Placed → Result (List ExportedIndex) Refusal
exports_of end_place x ss =
    in_order ss >>= λ u. has_bodies end_place (x.functions - x.imported) (first 10 ss) >>= λ v. exports_in (first 7 ss)

-- ---- what is written

-- indices, none of which may pass 32 bits
abbrev pub limited : List ℕ → Encoding
limited indices = record { bytes = []; counts = indices }

-- those of a function that is added to a module, which is the last one, as its type is
abbrev pub added_at : Indices → NewIndices
added_at x = record { type_index = x.types; index = x.functions; first = x.imported }

abbrev pub limits_of : Indices → List ℕ
limits_of x = x.types ∷ x.functions ∷ x.imported ∷ []

-- a function that allocates the stack
abbrev pub stack_function : NewIndices → List ℕ → Added
stack_function n body =
    record { func_type = (function_type allocation_type).bytes; type_index = n.type_index; index = n.index; body = body; export = None }

-- the module with one, which each exported function calls first
abbrev pub stacked : List ExportedIndex → StackIndices → List Piece → Encoding
stacked es x ps =
    limited (limits_of x.indices ++ x.realloc ∷ [])
    ⊕ with_function es x.indices.imported (stack_function (added_at x.indices) (allocation x.realloc x.globals).bytes) ps

abbrev pub fit_needed : ℕ → List Piece → Option StackIndices → Result (Option Encoding) Refusal
fit_needed end_place ps None = Ok None
fit_needed end_place ps (Some x) = exports_of end_place x.indices (placed 8 ps) >>= λ es. Ok (Some (stacked es x ps))

-- what the stack of the module with these bytes needs
abbrev pub needed_in : List ℕ → List Placed → Result (Option StackIndices) Refusal
needed_in bytes ss = of_sections (module_of bytes) >>= λ m. needed_of m ss

-- An adapter with its stack, or nothing where it needs none.
abbrev pub fit : List ℕ → Result (Option Encoding) Refusal
fit bytes = of_sections (pieces_of bytes) >>= λ ps. needed_in bytes (placed 8 ps) >>= fit_needed (length bytes) ps
