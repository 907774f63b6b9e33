-- When each refusal of core imports is right: what is wrong with the imports of the module, or with
-- their roles. (The roles are this project's own; what they require of types is from the core
-- standard and the Canonical ABI.)
use Rattle.std.specs.Prelude.{◌≡◌, ℕ, true, false, List, ◌∷◌, ◌++◌, Some, None, Contains}
use Rattle.std.specs.List.{flat_map}
use Rattle.core_types.specs.declared.types.MemoryType.{MemoryType}
use Rattle.core_sections.specs.declared.core_module.CoreModule.{CoreModule}
use Rattle.core_sections.specs.declared.entries.CoreImport.{CoreImport}
use Rattle.comp_roles.specs.CoreImports.{CoreImport as CoreUse, imports_from}
use Rattle.comp_roles.specs.Lookups.{imported_memory}
use Rattle.comp_roles.specs.declared.imports.Import.{Import}
use Rattle.comp_roles.specs.declared.imports.Import.TheVariants as imports
use Rattle.comp_roles.specs.declared.imports.ImportInstance.{ImportInstance}
use Rattle.comp_roles.specs.declared.libraries.Instance.TheVariants as instances
use Rattle.comp_roles.specs.declared.libraries.Item.{Item}
use Rattle.record_values.specs.declared.roles.ImportRole.{ImportRole}
use Rattle.record_resolve.specs.declared.resolving.Resolved.{Resolved}
use Rattle.record_role_targets.specs.Imports.{resolved_import}
use Rattle.record_core_types.specs.Fitting.{fits_import}
use Rattle.record_core_types.specs.Offered.{extern_type}
use Rattle.record_faults.specs.declared.fault.Refusal.{Refusal}
use Rattle.record_faults.specs.declared.fault.Refusal.TheVariants as refusals
use Rattle.record_imports.specs.declared.others.OtherModules.{OtherModules}
use Rattle.record_imports.specs.Others.{is_unknown}
use Rattle.record_imports.specs.Arguments.{Arguments, argument_for, item_under}
use Rattle.record_imports.specs.Meaning.{Roles, world_id, role_of, is_by_type}
use Rattle.record_imports.specs.Memories.{fits_memory}

pub data ImportCause (r : Resolved) (others : OtherModules) (arguments : Arguments) (table : Roles) (core : CoreModule) : Refusal → Type 0 where
  -- two core imports have one module and field
  twice : (i j : CoreImport) (before between after : List CoreImport) → core.imports ≡ before ++ i ∷ between ++ j ∷ after
      → i.«module» ≡ j.«module» → i.field ≡ j.field → ImportCause r others arguments table core (refusals.ImportTwice j.«module» j.field)
  -- the type of a core import is not made of numbers and references to any function, or its limits don't fit in 32 bits
  untyped : (i : CoreImport) → Contains core.imports i → extern_type core i.entity ≡ None → ImportCause r others arguments table core (refusals.CoreType i.field)
  -- it is from a module for which the first argument has items, and none under its field
  no_item : (i : CoreImport) (items : List Item) → Contains core.imports i → argument_for arguments i.«module» ≡ Some (instances.Items items) → item_under items i.field ≡ None
      → ImportCause r others arguments table core (refusals.RoleMissing i.«module» i.field)
  -- there is no argument for its module, and it has no role
  no_role : (i : CoreImport) → Contains core.imports i → argument_for arguments i.«module» ≡ None → role_of table i ≡ None → ImportCause r others arguments table core (refusals.RoleMissing i.«module» i.field)
  -- or its role is an export of another module that this one may not import, or that isn't there
  of_other : (i : CoreImport) (role : ImportRole) → Contains core.imports i → argument_for arguments i.«module» ≡ None → role_of table i ≡ Some role → is_unknown others role ≡ true
      → ImportCause r others arguments table core (refusals.RoleMissing i.«module» i.field)
  -- or what its role names is not in the world
  nothing_there : (i : CoreImport) (role : ImportRole) → Contains core.imports i → argument_for arguments i.«module» ≡ None → role_of table i ≡ Some role → is_by_type role ≡ false
      → resolved_import r i.field role (extern_type core i.entity) ≡ None → ImportCause r others arguments table core (refusals.RoleMissing i.«module» i.field)
  -- or its role is a memory, and the import is not, or a function of an adapter, and the import is none
  of_another_kind : (i : CoreImport) (role : ImportRole) → Contains core.imports i → argument_for arguments i.«module» ≡ None → role_of table i ≡ Some role → is_by_type role ≡ true
      → resolved_import r i.field role (extern_type core i.entity) ≡ None → ImportCause r others arguments table core (refusals.CoreType i.field)
  -- or its type is not that of its role
  unfit : (i : CoreImport) (role : ImportRole) (import : Import) → Contains core.imports i → argument_for arguments i.«module» ≡ None → role_of table i ≡ Some role
      → resolved_import r i.field role (extern_type core i.entity) ≡ Some import → fits_import r.resolve world_id core import i.entity ≡ false
      → ImportCause r others arguments table core (refusals.CoreType i.field)

-- where these imports include a memory, the first that does gives it
pub data MemoryCause (modules : List (List ℕ × ImportInstance)) : Refusal → Type 0 where
  -- a memory is imported, and the first that is doesn't fit it
  unfit_memory : (first ty : MemoryType) (i : CoreUse) → imported_memory modules ≡ Some first → Contains (flat_map imports_from modules) i → i.role ≡ imports.MainModuleMemory ty
      → fits_memory first ty ≡ false → MemoryCause modules (refusals.CoreType i.field)
