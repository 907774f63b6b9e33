use Rattle.std.proofs.Common.{◌≡◌}
use Rattle.world_warnings.specs.Facts.{of_interfaces}
use Rattle.world_warnings.proofs.facts.add_interfaces.Given as goal

abbrev pub invariant-loop-name : goal.invariant-loop-name
invariant-loop-name l =
    (goal.iterator-loop-name).can_next l.name-iterator ×
    (goal.iterator-loop-name).is_finite l.name-iterator ×
    (of_interfaces l.table l.name-iterator ≡ of_interfaces l.fn.table l.interfaces)
