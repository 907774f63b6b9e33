use Rattle.std.proofs.Common.{◌≡◌}
use Rattle.comp_roles.specs.Lookups.{imported_memory}
use Rattle.comp_roles.proofs.imports.ImportMap.imported_memory.Given as goal

abbrev pub invariant-loop-instance : goal.invariant-loop-instance
invariant-loop-instance l =
    goal.iterator-loop-instance.can_next l.instance-iterator ×
    goal.iterator-loop-instance.is_finite l.instance-iterator ×
    (imported_memory l.instance-iterator ≡ imported_memory l.self.modules)
