-- The role of a core export: which value of JSON is which role, and what the world must have for it.
use Rattle.std.specs.Prelude.{ℕ, List, codes, Option, Some, None, Result, Ok, Err}
use Rattle.serde_json.specs.Data.{Data}
use Rattle.json_paths.specs.declared.fault.Failure.{Failure}
use Rattle.json_paths.specs.Faults.{◌>>=◌}
use Rattle.json_paths.specs.Reading.{under, at_member}
use Rattle.record_values.specs.declared.names.Owner.{Owner}
use Rattle.record_values.specs.declared.names.Owner.TheVariants as owners
use Rattle.record_values.specs.declared.roles.ExportRole.{ExportRole}
use Rattle.record_values.specs.declared.roles.ExportRole.TheVariants as roles
use Rattle.record_values.specs.declared.roles.PlainExport.{PlainExport}
use Rattle.record_sides.specs.declared.indexed.RecordWorld.{RecordWorld}
use Rattle.record_export_roles.specs.declared.kinds.ExportRoleKind.{ExportRoleKind}
use Rattle.record_export_roles.specs.declared.kinds.ExportRoleKind.TheVariants as kinds
use Rattle.record_sides.specs.declared.named.Called.{Called}
use Rattle.record_sides.specs.declared.named.Named.TheVariants as named
use Rattle.record_sides.specs.declared.named.Owners.TheVariants as owning
use Rattle.record_sides.specs.declared.sides.Side.TheVariants as sides
use Rattle.record_sides.specs.Arguments.{kind_of, no_argument, one_argument}
use Rattle.record_sides.specs.Named.{name_of, named_of, resource_of, world_function_of, interface_function_of}
use Rattle.record_export_roles.specs.Kinds.{export_from}

abbrev pub function_of : Result Called Failure → Result ExportRole Failure
function_of r = do
  f ← r
  Ok (roles.Function f.owner f.name f.abi)

-- the name of a function of the world
unfoldable pub world_name_of : RecordWorld → Data → Result (List ℕ) Failure
world_name_of w d = do
  a ← one_argument d
  under (codes "1") (name_of w sides.Export named.Function None a)

abbrev pub world_post_return_of : RecordWorld → Data → Result ExportRole Failure
world_post_return_of w d = do
  name ← world_name_of w d
  Ok (roles.PostReturn owners.World name)

abbrev pub world_callback_of : RecordWorld → Data → Result ExportRole Failure
world_callback_of w d = do
  name ← world_name_of w d
  Ok (roles.Callback owners.World name)

-- interface, function
abbrev pub interface_name_of : RecordWorld → Data → Result (Owner × List ℕ) Failure
interface_name_of w d = named_of w sides.Export owning.Interfaces named.Function d

abbrev pub interface_post_return_of : RecordWorld → Data → Result ExportRole Failure
interface_post_return_of w d = do
  n ← interface_name_of w d
  Ok (roles.PostReturn n.0 n.1)

abbrev pub interface_callback_of : RecordWorld → Data → Result ExportRole Failure
interface_callback_of w d = do
  n ← interface_name_of w d
  Ok (roles.Callback n.0 n.1)

-- interface, resource
abbrev pub destructor_of : RecordWorld → Data → Result ExportRole Failure
destructor_of w d = do
  t ← resource_of w sides.Export owning.Interfaces d
  Ok (roles.Destructor t)

abbrev pub plain_of : PlainExport → Data → Result ExportRole Failure
plain_of export d = do
  _ ← no_argument d
  Ok (roles.Plain export)

abbrev pub export_role_of_kind : RecordWorld → Data → ExportRoleKind → Result ExportRole Failure
export_role_of_kind w d kinds.WorldFunc = function_of (world_function_of w sides.Export d)
export_role_of_kind w d kinds.InterfaceFunc = function_of (interface_function_of w sides.Export d)
export_role_of_kind w d kinds.WorldPostReturn = world_post_return_of w d
export_role_of_kind w d kinds.WorldCallback = world_callback_of w d
export_role_of_kind w d kinds.InterfacePostReturn = interface_post_return_of w d
export_role_of_kind w d kinds.InterfaceCallback = interface_callback_of w d
export_role_of_kind w d kinds.Destructor = destructor_of w d
export_role_of_kind w d (kinds.Plain export) = plain_of export d

abbrev pub some_export_role : RecordWorld → Data → Option ExportRoleKind → Result ExportRole Failure
some_export_role w d None = Err (at_member (codes "0"))
some_export_role w d (Some kind) = export_role_of_kind w d kind

-- the kind, and the arguments after it
unfoldable pub export_role_of : RecordWorld → Data → Result ExportRole Failure
export_role_of w d = do
  name ← kind_of d
  some_export_role w d (export_from name)
