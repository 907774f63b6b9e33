-- What is looked up in the imports and exports of a core module (component model: names of imports and exports).
use Rattle.std.specs.Prelude.{ℕ, Bool, true, false, if◌then◌else◌, List, [], ◌∷◌, Option, Some, None}
use Rattle.std.specs.Option.{option_or}
use Rattle.core_types.specs.declared.types.MemoryType.{MemoryType}
use Rattle.comp_roles.specs.CoreImports.{fields_of}
use Rattle.comp_roles.specs.declared.imports.Import.{Import}
use Rattle.comp_roles.specs.declared.imports.Import.TheVariants as imports
use Rattle.comp_roles.specs.declared.imports.ImportInstance.{ImportInstance}
use Rattle.comp_roles.specs.declared.exports.Export.{Export}
use Rattle.comp_roles.specs.declared.exports.Export.TheVariants as exports

-- the first value that the function gives for an element
abbrev pub first_some : {A B : Type 0} → (A → Option B) → List A → Option B
first_some pick [] = None
first_some pick (x ∷ xs) = option_or (pick x) (first_some pick xs)

-- the exports of a module, by name
abbrev pub Exports : Type 0
Exports = List (List ℕ × Export)

-- the name of the first export that passes the test
abbrev pub first_export : (Export → Bool) → Exports → Option (List ℕ)
first_export matching [] = None
first_export matching (entry ∷ rest) = if matching entry.1 then Some entry.0 else first_export matching rest

-- ---- memories

abbrev pub memory_of_import : Import → Option MemoryType
memory_of_import (imports.MainModuleMemory ty) = Some ty
memory_of_import role = None

abbrev pub memory_of_fields : List (List ℕ × Import) → Option MemoryType
memory_of_fields fields = first_some (λ f. memory_of_import f.1) fields

-- the memory of main that a module imports, group by group
abbrev pub imported_memory : List (List ℕ × ImportInstance) → Option MemoryType
imported_memory groups = first_some (λ g. memory_of_fields (fields_of g.1)) groups

abbrev pub memory_of : List ℕ × Export → Option (List ℕ × MemoryType)
memory_of (name, exports.Memory ty) = Some (name, ty)
memory_of entry = None

abbrev pub first_memory : Exports → Option (List ℕ × MemoryType)
first_memory entries = first_some memory_of entries

-- ---- roles of exports

abbrev pub is_initialize : Export → Bool
is_initialize exports.Initialize = true
is_initialize role = false

abbrev pub is_task_hook : Export → Bool
is_task_hook exports.WasmTaskHook = true
is_task_hook role = false
