-- The roles of the core imports of a module, by module and field.
use Rattle.std.specs.Prelude.{ℕ, List, [], Result, Ok}
use Rattle.core_sections.specs.declared.core_module.CoreModule.{CoreModule}
use Rattle.comp_roles.specs.declared.imports.ImportInstance.{ImportInstance}
use Rattle.record_resolve.specs.declared.resolving.Resolved.{Resolved}
use Rattle.record_faults.specs.declared.fault.Failure.{Failure}
use Rattle.record_faults.specs.Faults.{◌>>=◌}
use Rattle.record_imports.specs.declared.others.OtherModules.{OtherModules}
use Rattle.record_imports.specs.Arguments.{Arguments}
use Rattle.record_imports.specs.Meaning.{Roles}
use Rattle.record_imports.specs.Grouping.{groups_after, instances_of}

unfoldable pub imports_of : Resolved → OtherModules → Arguments → Roles → CoreModule → Result (List (List ℕ × ImportInstance)) Failure
imports_of r others arguments table core = do
  groups ← groups_after r others arguments table core [] core.imports
  Ok (instances_of arguments groups)
