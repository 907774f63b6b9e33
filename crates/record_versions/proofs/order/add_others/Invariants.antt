use Rattle.std.proofs.Common.{◌≡◌}
use Rattle.record_versions.specs.Order.{others_after}
use Rattle.record_versions.proofs.order.add_others.Given as goal

abbrev pub invariant-loop-key : goal.invariant-loop-key
invariant-loop-key l =
    (goal.iterator-loop-key).can_next l.key-iterator ×
    (goal.iterator-loop-key).is_finite l.key-iterator ×
    (others_after l.table l.key-iterator ≡ others_after l.fn.table l.imports)
