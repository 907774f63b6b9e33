-- A main module that gets a realloc, for an adapter that asks main for its stack. (This project's
-- own, after the tools that write such adapters.)
use Rattle.std.specs.Prelude.{ℕ, ◌==◌, Bool, ◌&&◌, ◌||◌, is_some, List, [], ◌∷◌, length, codes, Option, Some, None, Result, Ok, Err, if◌then◌else◌}
use Rattle.comp_lists.specs.Found.{found}
use Rattle.byte_encoding.specs.Encoding.{Encoding, ◌⊕◌, octet, number, named}
use Rattle.core_sections.specs.Sections.{Piece, pieces_of}
use Rattle.core_sections.specs.Entries.{module_of}
use Rattle.core_sections.specs.declared.core_module.CoreModule.{CoreModule}
use Rattle.core_types.specs.Grammar.{function_type}
use Rattle.module_edits.specs.Additions.{Added, with_function}
use Rattle.adapter_fitting.specs.declared.fault.Refusal.{Refusal}
use Rattle.adapter_fitting.specs.declared.fault.Refusal.TheVariants as refusals
use Rattle.adapter_fitting.specs.declared.checks.NewIndices.{NewIndices}
use Rattle.adapter_fitting.specs.declared.indices.Indices.{Indices}
use Rattle.adapter_fitting.specs.Faults.{◌>>=◌, of_sections}
use Rattle.adapter_fitting.specs.Places.{Placed, placed, first}
use Rattle.adapter_fitting.specs.Fitting.{indices_of_module, exports_of, limited, limits_of, added_at}
use Rattle.adapter_fitting.specs.Allocation.{realloc_type, page_realloc}

-- the name of main's realloc for adapters, which no module takes for a realloc of its own calls
abbrev pub realloc_name : List ℕ
realloc_name = codes "cabi_realloc_adapter"

-- an export of a function
abbrev pub function_export : List ℕ → ℕ → Encoding
function_export name index = named name ⊕ octet 0x00 ⊕ number index

-- a realloc, with the entry of its export
abbrev pub realloc_function : NewIndices → List ℕ → Added
realloc_function n export =
    record { func_type = (function_type realloc_type).bytes; type_index = n.type_index; index = n.index; body = page_realloc.bytes; export = Some export }

-- the module with one, its last function, which it exports
abbrev pub with_realloc : Indices → List Piece → Encoding
with_realloc x ps =
    limited (limits_of x) ⊕ with_function [] x.imported (realloc_function (added_at x) (function_export realloc_name x.functions).bytes) ps

-- what it needs: a memory, and the sections that get an entry
abbrev pub has_lists : List Placed → Bool
has_lists ss = is_some (first 1 ss) && is_some (first 3 ss) && is_some (first 7 ss)

abbrev pub can_get_realloc : CoreModule → List Placed → Result Unit Refusal
can_get_realloc m ss =
    if length m.items.memories == 0 then Err refusals.NoMemory
    else if has_lists ss then Ok tt
    else Err refusals.NoFunctions

abbrev pub exports_name : List ℕ → CoreModule → Bool
exports_name name m = is_some (found name m.exports)

-- an item of one of these names counts as a realloc
abbrev pub has_realloc : CoreModule → Bool
has_realloc m = exports_name (codes "cabi_realloc") m || exports_name realloc_name m

abbrev pub lacking_of : CoreModule → List Placed → Bool → Result (Option Indices) Refusal
lacking_of m ss has = if has then Ok None else (can_get_realloc m ss >>= λ u. Ok (Some (indices_of_module m)))

-- what a module is that needs a realloc
abbrev pub lacking : List ℕ → List Placed → Result (Option Indices) Refusal
lacking bytes ss = of_sections (module_of bytes) >>= λ m. lacking_of m ss (has_realloc m)

abbrev pub give_lacking : ℕ → List Piece → Option Indices → Result (Option Encoding) Refusal
give_lacking end_place ps None = Ok None
give_lacking end_place ps (Some x) = exports_of end_place x (placed 8 ps) >>= λ es. Ok (Some (with_realloc x ps))

-- The module with a realloc, or nothing where it has one.
abbrev pub main_with_realloc : List ℕ → Result (Option Encoding) Refusal
main_with_realloc bytes = of_sections (pieces_of bytes) >>= λ ps. lacking bytes (placed 8 ps) >>= give_lacking (length bytes) ps
