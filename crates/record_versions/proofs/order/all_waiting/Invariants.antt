use Rattle.std.proofs.Common.{◌≡◌, ◌++◌}
use Rattle.record_versions.specs.Order.{waiting}
use Rattle.record_versions.proofs.order.all_waiting.Given as goal

abbrev pub invariant-loop-key : goal.invariant-loop-key
invariant-loop-key l =
    (goal.iterator-loop-key).can_next l.key-iterator ×
    (goal.iterator-loop-key).is_finite l.key-iterator ×
    (l.list ++ waiting l.interfaces l.key-iterator ≡ waiting l.interfaces l.imports)
