-- The base of the thread-local data of the running task, where slot 1 of a task's context can't be used for it: one cell
-- of the component holds it for all modules, and so these have to agree on its type. (The cell is this project's own; it
-- takes the place of the Canonical ABI's `canon context.{get,set}`.)
use Rattle.std.specs.Prelude.{◌≡◌, ◌≢◌, if◌then◌else◌, List, [], Option, Some, None, Contains}
use Rattle.core_types.specs.declared.types.ValType.{ValType}
use Rattle.comp_roles.specs.CoreImports.{CoreImport}
use Rattle.comp_roles.specs.Lookups.{first_some}
use Rattle.comp_roles.specs.declared.imports.Import.{Import}
use Rattle.comp_roles.specs.declared.imports.Import.TheVariants as imports
use Rattle.comp_worlds.specs.Uses.{all_imports}
use Rattle.comp_worlds.specs.declared.world.ComponentWorld.{ComponentWorld}

-- the type of the base that an import reads or sets, if it is one that does
abbrev pub base_of_role : Import → Option ValType
base_of_role (imports.TlsBaseGet type) = Some type
base_of_role (imports.TlsBaseSet type) = Some type
base_of_role role = None

-- the imports among which are those that the cell is for: none, where slot 1 can be used
abbrev pub cell_imports : ComponentWorld → List CoreImport
cell_imports w = if w.can_use_context_slot_1 then [] else all_imports w.main w.adapters

-- the type of what the cell holds, where some module uses it: that which the first of them names
abbrev pub cell_type : ComponentWorld → Option ValType
cell_type w = first_some (λ i. base_of_role i.role) (cell_imports w)

-- some module reads or sets a base of this type in the cell
pub record HasBase (w : ComponentWorld) (type : ValType) : Type 0 where
  pub given : CoreImport
  pub present : Contains (cell_imports w) given
  pub base : base_of_role given.role ≡ Some type

-- all that do agree
abbrev pub AreBasesAlike : ComponentWorld → Type 0
AreBasesAlike w = (type : ValType) → HasBase w type → cell_type w ≡ Some type

-- two of them don't
pub record HasUnlikeBases (w : ComponentWorld) : Type 0 where
  pub one : ValType
  pub other : ValType
  pub has_one : HasBase w one
  pub has_other : HasBase w other
  pub apart : one ≢ other
