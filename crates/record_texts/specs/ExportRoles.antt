-- The roles of core exports in a record.
use Rattle.std.specs.Prelude.{ℕ, List, [], ◌∷◌, codes}
use Rattle.serde_json.specs.Data.{Data, string, object, member, no_members}
use Rattle.record_values.specs.declared.names.Owner.{Owner}
use Rattle.record_values.specs.declared.names.Owner.TheVariants as owners
use Rattle.record_values.specs.declared.roles.ExportRole.{ExportRole}
use Rattle.record_values.specs.declared.roles.ExportRole.TheVariants as roles
use Rattle.record_values.specs.declared.roles.PlainExport.{PlainExport}
use Rattle.record_values.specs.declared.roles.PlainExport.TheVariants as exports
use Rattle.record_texts.specs.Names.{Indices, owner_data, pair, triple}
use Rattle.record_texts.specs.ImportRoles.{alone, function_role, type_role}

abbrev pub plain_name : PlainExport → List ℕ
plain_name exports.Memory = codes "memory"
plain_name exports.Realloc = codes "realloc"
plain_name exports.ImportRealloc = codes "import-realloc"
plain_name exports.ExportRealloc = codes "export-realloc"
plain_name exports.AdapterRealloc = codes "adapter-realloc"
plain_name exports.Initialize = codes "initialize"
plain_name exports.TaskHook = codes "task-hook"

-- what belongs to a function: by one name for those of the world, and another for those of interfaces
abbrev pub beside_data : Indices → List ℕ → List ℕ → Owner → List ℕ → Data
beside_data is of_world of_interface owners.World function = pair (string of_world) (string function)
beside_data is of_world of_interface (owners.Interface i) function = triple (string of_interface) (owner_data is (owners.Interface i)) (string function)

abbrev pub export_role_data : Indices → ExportRole → Data
export_role_data is (roles.Function owner name abi) = function_role is owner name abi
export_role_data is (roles.PostReturn owner function) = beside_data is (codes "world-post-return") (codes "interface-post-return") owner function
export_role_data is (roles.Callback owner function) = beside_data is (codes "world-callback") (codes "interface-callback") owner function
export_role_data is (roles.Destructor t) = type_role is (codes "dtor") t
export_role_data is (roles.Plain export) = alone (plain_name export)

-- {"field", "role"}
abbrev pub core_export_data : Indices → List ℕ × ExportRole → Data
core_export_data is (field, role) = object (member (codes "field") (string field) (member (codes "role") (export_role_data is role) no_members))
