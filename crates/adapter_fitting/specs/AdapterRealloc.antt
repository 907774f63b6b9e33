-- Main's realloc under the name that it has for adapters, and an adapter that imports it so. (This
-- project's own, after the tools that write such modules.)
use Rattle.std.specs.Prelude.{ℕ, Bool, ◌||◌, not, List, codes, Option, Some, None, Result, Ok, Err}
use Rattle.byte_encoding.specs.Encoding.{Encoding}
use Rattle.core_sections.specs.Sections.{Piece, pieces_of}
use Rattle.core_sections.specs.Entries.{module_of}
use Rattle.core_sections.specs.declared.core_module.CoreModule.{CoreModule}
use Rattle.module_edits.specs.Renaming.{Renamed, with_import_name}
use Rattle.adapter_fitting.specs.declared.fault.Refusal.{Refusal}
use Rattle.adapter_fitting.specs.declared.realloc.ReallocImport.{ReallocImport}
use Rattle.adapter_fitting.specs.Faults.{◌>>=◌, of_sections}
use Rattle.adapter_fitting.specs.MainRealloc.{realloc_name, exports_name}
use Rattle.adapter_fitting.specs.Places.{Placed, placed}
use Rattle.adapter_fitting.specs.Stack.{realloc_from}

-- main has one for adapters, or none at all, so that it gets one where that is asked for
abbrev pub is_for_adapters : CoreModule → Bool
is_for_adapters m = exports_name realloc_name m || not (exports_name (codes "cabi_realloc") m)

-- Whether the adapters of a main module are to import its realloc under that name.
abbrev pub names_adapter_realloc : List ℕ → Result Bool Refusal
names_adapter_realloc bytes = of_sections (module_of bytes) >>= λ m. Ok (is_for_adapters m)

abbrev pub new_name : Renamed
new_name = record { «module» = codes "__main_module__"; field = codes "cabi_realloc"; new_field = realloc_name }

-- the import of main's realloc
abbrev pub importing : List ℕ → List Placed → Result (Option ReallocImport) Refusal
importing bytes ss = of_sections (module_of bytes) >>= λ m. Ok (realloc_from 0 m.imports)

abbrev pub renamed_if : List Piece → Option ReallocImport → Result (Option Encoding) Refusal
renamed_if ps None = Ok None
renamed_if ps (Some r) = Ok (Some (with_import_name new_name ps))

-- An adapter with the new name, or nothing where it doesn't import main's realloc.
abbrev pub with_adapter_realloc : List ℕ → Result (Option Encoding) Refusal
with_adapter_realloc bytes = of_sections (pieces_of bytes) >>= λ ps. importing bytes (placed 8 ps) >>= renamed_if ps
