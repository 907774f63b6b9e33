-- When items and roles are equal: where all their parts are.
use Rattle.record_merge.specs.ModuleRecords.{RoleTests}
use Rattle.record_merge.specs.Merging.{Tests}
use Rattle.records.specs.Equalities.{same_interface}
use Rattle.record_values.specs.contracts.roles.ExportRolePartialEq.TheImpl as export_roles
use Rattle.record_values.specs.contracts.roles.ImportRolePartialEq.TheImpl as import_roles
use Rattle.record_values.specs.contracts.world.ItemPartialEq.TheImpl as items

abbrev pub tests : Tests
tests = record { interface = same_interface; item = items.eq-value.it }

abbrev pub role_tests : RoleTests
role_tests = record { import_role = import_roles.eq-value.it; export_role = export_roles.eq-value.it }
