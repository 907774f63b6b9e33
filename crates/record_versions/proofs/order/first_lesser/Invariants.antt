use Rattle.std.proofs.Common.{◌≡◌}
use Rattle.record_versions.specs.Order.{first_lesser}
use Rattle.record_versions.proofs.order.first_lesser.Given as goal

abbrev pub invariant-loop-lesser : goal.invariant-loop-lesser
invariant-loop-lesser l =
    (goal.iterator-loop-lesser).can_next l.lesser-iterator ×
    (goal.iterator-loop-lesser).is_finite l.lesser-iterator ×
    (first_lesser l.lesser-iterator ≡ first_lesser l.renames)
