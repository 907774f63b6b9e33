-- The role of one core import of a module (the roles are this project's own; what they require is from the Canonical
-- ABI: `canon lower` and the built-in functions).
--
-- An import must have a role, the role must resolve in the world, and the import must have the type
-- that the resolved role requires. A role that is an export of another module must be one that the
-- module may import, of a module that is there. A library's import from a module that stands in its
-- arguments has its role from the first such argument, and none from the record.
use Rattle.std.specs.Prelude.{Bool, true, false, List, Option, Some, None, option_map, ok_or, Result, Ok, Err, ⊤, if◌then◌else◌}
use Rattle.std.specs.Map.{lookup}
use Rattle.std.specs.Option.{option_and_then}
use Rattle.core_sections.specs.declared.core_module.CoreModule.{CoreModule}
use Rattle.core_sections.specs.declared.entries.CoreImport.{CoreImport}
use Rattle.wit_data.specs.declared.ids.WorldId.{WorldId}
use Rattle.comp_roles.specs.declared.imports.Import.{Import}
use Rattle.comp_roles.specs.declared.imports.Import.TheVariants as imports
use Rattle.comp_roles.specs.declared.libraries.Instance.{Instance}
use Rattle.comp_roles.specs.declared.offered.ExternType.{ExternType}
use Rattle.record_values.specs.Names.{is_same_import}
use Rattle.record_values.specs.declared.record.ImportName.{ImportName}
use Rattle.record_values.specs.declared.roles.ImportRole.{ImportRole}
use Rattle.record_values.specs.declared.roles.ImportRole.TheVariants as roles
use Rattle.record_resolve.specs.declared.resolving.Resolved.{Resolved}
use Rattle.record_role_targets.specs.Imports.{resolved_import}
use Rattle.record_core_types.specs.Fitting.{fits_import}
use Rattle.record_core_types.specs.Offered.{extern_type}
use Rattle.record_faults.specs.declared.fault.Failure.{Failure}
use Rattle.record_faults.specs.declared.fault.Failure.TheVariants as failures
use Rattle.record_faults.specs.declared.fault.Refusal.TheVariants as refusals
use Rattle.record_faults.specs.Faults.{◌>>=◌}
use Rattle.record_imports.specs.declared.others.OtherModules.{OtherModules}
use Rattle.record_imports.specs.Others.{is_unknown}
use Rattle.record_imports.specs.Arguments.{Arguments, argument_for, item_of}

-- the roles of core imports, by module and field
abbrev pub Roles : Type 0
Roles = List (ImportName × ImportRole)

-- the one world of a resolve that was made of a record
abbrev pub world_id : WorldId
world_id = record { index = 0 }

-- ---- roles

abbrev pub role_of : Roles → CoreImport → Option ImportRole
role_of table i = lookup (is_same_import (record { «module» = i.«module»; field = i.field })) table

-- the role of an import, unless it names an export of another module that the module may not
-- import, or that isn't there
abbrev pub unless_unknown : OtherModules → ImportRole → Option ImportRole
unless_unknown others role = if is_unknown others role then None else Some role

abbrev pub known_role : OtherModules → Roles → CoreImport → Option ImportRole
known_role others table i = option_and_then (unless_unknown others) (role_of table i)

-- a role that the type of the import resolves: main's memory, or a function that an adapter exports
abbrev pub is_by_type : ImportRole → Bool
is_by_type roles.Memory = true
is_by_type (roles.AdapterExport adapter name) = true
is_by_type role = false

-- what a role resolves to, for an import of this type
abbrev pub target : Resolved → CoreImport → ImportRole → ExternType → Option Import
target r i role ty = resolved_import r i.field role (Some ty)

-- ---- refusals

abbrev pub no_role : CoreImport → Failure
no_role i = failures.Refused (refusals.RoleMissing i.«module» i.field)

abbrev pub unfit : CoreImport → Failure
unfit i = failures.Refused (refusals.CoreType i.field)

-- The role of a memory doesn't resolve where the import is no memory, that of a function of an
-- adapter where it is no function, and any other where what it names does not exist.
abbrev pub meaningless : CoreImport → ImportRole → Failure
meaningless i role = if is_by_type role then unfit i else no_role i

-- ---- the import

-- the resolved role of an import, where the import has the type that it requires
abbrev pub fitting : Resolved → CoreModule → CoreImport → Import → Result Import Failure
fitting r core i import = if fits_import r.resolve world_id core import i.entity then Ok import else Err (unfit i)

-- a value, unless its check was refused
abbrev pub kept : {A : Type 0} → A → Result ⊤ Failure → Result A Failure
kept value (Ok u) = Ok value
kept value (Err e) = Err e

-- the role by the record, resolved
unfoldable pub by_record : Resolved → OtherModules → Roles → CoreModule → CoreImport → ExternType → Result Import Failure
by_record r others table core i ty = do
  role ← ok_or (known_role others table i) (no_role i)
  import ← ok_or (target r i role ty) (meaningless i role)
  fitting r core i import

-- the role by an argument: its item
abbrev pub by_argument : CoreImport → ExternType → Instance → Result Import Failure
by_argument i ty instance = ok_or (option_map imports.Item (item_of instance i.field ty)) (no_role i)

-- by the argument for the import's module, if there is one
abbrev pub by_either : Resolved → OtherModules → Roles → CoreModule → CoreImport → ExternType → Option Instance → Result Import Failure
by_either r others table core i ty None = by_record r others table core i ty
by_either r others table core i ty (Some instance) = by_argument i ty instance

-- The role of a core import. Its type is made of numbers and references to any function only, with limits of 32 bits.
unfoldable pub import_of : Resolved → OtherModules → Arguments → Roles → CoreModule → CoreImport → Result Import Failure
import_of r others arguments table core i = do
  ty ← ok_or (extern_type core i.entity) (unfit i)
  by_either r others table core i ty (argument_for arguments i.«module»)
