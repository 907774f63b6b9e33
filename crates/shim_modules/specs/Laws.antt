-- That modules of shims are those of which the laws of `core_runs` speak.
use Rattle.std.specs.Prelude.{◌≡◌, Bool, List, [], ◌∷◌, ◌++◌, map, Option, Some, None}
use Rattle.core_types.specs.declared.types.FuncType.{FuncType}
use Rattle.core_types.specs.declared.types.MemoryType.{MemoryType}
use Rattle.core_runs.specs.Instances.{Parts}
use Rattle.core_runs.specs.Sections.{parts_of}
use Rattle.core_runs.specs.LawsOfInstances.{Slot, shim_of, shim_parts}
use Rattle.shim_modules.specs.declared.shims.ShimFunction.{ShimFunction}
use Rattle.shim_modules.specs.declared.shims.ThreadCell.{ThreadCell}
use Rattle.shim_modules.specs.Shims.{shim_sections, cell_types, cell_bodies, cell_global}

abbrev pub memories_of : Option MemoryType → List MemoryType
memories_of None = []
memories_of (Some type) = type ∷ []

-- and the cell with its functions, which come last
abbrev pub with_cell : Option ThreadCell → Parts → Parts
with_cell None m = m
with_cell (Some c) m = record m { functions = m.functions ++ cell_types (Some c); globals = cell_global c ∷ []; bodies = m.bodies ++ cell_bodies (Some c) }

-- those of `core_runs`, and the memory and the cell where there are any; where there are no shims, there is no table
abbrev pub module_parts : Option MemoryType → Option ThreadCell → List FuncType → List Slot → Parts
module_parts memory cell types [] = with_cell cell (record (shim_parts types []) { tables = []; memories = memories_of memory })
module_parts memory cell types (s ∷ ss) = with_cell cell (record (shim_parts types (s ∷ ss)) { memories = memories_of memory })

-- The parts of the module, where the shims have these types. With shims, and without a memory and a cell, the laws of
-- `core_runs` on modules of shims hold of it.
abbrev pub ShimModulesAreShims : Type 0
ShimModulesAreShims =
    (memory : Option MemoryType) (cell : Option ThreadCell) (types : List FuncType) (shims : List ShimFunction) (slots : List Slot) (debug_names : Bool) → map (λ s. s.code) shims ≡ map shim_of slots → parts_of (shim_sections memory cell types shims debug_names) ≡ module_parts memory cell types slots
