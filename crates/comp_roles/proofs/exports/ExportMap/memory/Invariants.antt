use Rattle.std.proofs.Common.{◌≡◌}
use Rattle.comp_roles.specs.Lookups.{first_memory}
use Rattle.comp_roles.proofs.exports.ExportMap.memory.Given as goal

abbrev pub invariant-loop-name : goal.invariant-loop-name
invariant-loop-name l =
    goal.iterator-loop-name.can_next l.name-iterator ×
    goal.iterator-loop-name.is_finite l.name-iterator ×
    (first_memory l.name-iterator ≡ first_memory l.self.exports)
