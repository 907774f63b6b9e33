-- A main module that imports its memory several times: the first import gives the memory, and the others must accept it
-- (core standard, validation: matching of limits).
use Rattle.std.specs.Prelude.{ℕ, nat_le, Bool, true, false, ◌&&◌, List, [], ◌∷◌, Option, Some, None, Result, Ok, Err, ⊤, if◌then◌else◌}
use Rattle.std.specs.List.{flat_map}
use Rattle.core_types.specs.declared.types.MemoryType.{MemoryType}
use Rattle.comp_roles.specs.CoreImports.{CoreImport, imports_from}
use Rattle.comp_roles.specs.Lookups.{imported_memory, memory_of_import}
use Rattle.comp_roles.specs.declared.imports.ImportInstance.{ImportInstance}
use Rattle.record_faults.specs.declared.fault.Failure.{Failure}
use Rattle.record_faults.specs.declared.fault.Failure.TheVariants as failures
use Rattle.record_faults.specs.declared.fault.Refusal.TheVariants as refusals

-- where a maximum size is required, one that is not greater is offered
abbrev pub fits_maximum : Option ℕ → Option ℕ → Bool
fits_maximum offered None = true
fits_maximum None (Some most) = false
fits_maximum (Some greatest) (Some most) = nat_le greatest most

-- a memory of the first type can be given where the second is required
abbrev pub fits_memory : MemoryType → MemoryType → Bool
fits_memory offered asked = nat_le asked.minimum offered.minimum && fits_maximum offered.maximum asked.maximum

-- a memory of this type can be given where one is required
abbrev pub takes : MemoryType → Option MemoryType → Bool
takes first None = true
takes first (Some asked) = fits_memory first asked

abbrev pub unfit_memory : List ℕ → Failure
unfit_memory field = failures.Refused (refusals.CoreType field)

-- each of these imports accepts the first memory, if it is a memory
abbrev pub all_take : MemoryType → List CoreImport → Result ⊤ Failure
all_take first [] = Ok tt
all_take first (i ∷ is) = if takes first (memory_of_import i.role) then all_take first is else Err (unfit_memory i.field)

-- where there is a first memory
abbrev pub all_take_first : Option MemoryType → List CoreImport → Result ⊤ Failure
all_take_first None is = Ok tt
all_take_first (Some first) is = all_take first is

-- all memories that are imported fit the first
unfoldable pub memories_fit : List (List ℕ × ImportInstance) → Result ⊤ Failure
memories_fit modules = all_take_first (imported_memory modules) (flat_map imports_from modules)
