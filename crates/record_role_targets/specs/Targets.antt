-- What the core imports of a module resolve to, by their roles in a record and the resolve of its world.
use Rattle.std.specs.Prelude.{List, Option}
use Rattle.std.specs.Map.{lookup}
use Rattle.std.specs.Option.{option_and_then}
use Rattle.comp_roles.specs.declared.imports.Import.{Import}
use Rattle.comp_roles.specs.declared.offered.ExternType.{ExternType}
use Rattle.record_values.specs.Names.{is_same_import}
use Rattle.record_values.specs.declared.record.ImportName.{ImportName}
use Rattle.record_values.specs.declared.roles.ImportRole.{ImportRole}
use Rattle.record_resolve.specs.declared.resolving.Resolved.{Resolved}
use Rattle.record_role_targets.specs.Imports.{resolved_import}

-- the roles of core imports, by module and field
abbrev pub Roles : Type 0
Roles = List (ImportName × ImportRole)

-- a resolved world, and roles that name what it has
pub record WorldRoles : Type 0 where
  pub resolved : Resolved
  pub table : Roles

abbrev pub role_of : Roles → ImportName → Option ImportRole
role_of table name = lookup (is_same_import name) table

-- The resolved role of the import of this name and this type, where it has a role.
abbrev pub resolved_role : WorldRoles → ImportName → Option ExternType → Option Import
resolved_role t name ty = option_and_then (λ role. resolved_import t.resolved name.field role ty) (role_of t.table name)
