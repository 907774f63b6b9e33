use Rattle.std.proofs.Common.{◌≡◌, []}
use Rattle.record_versions.specs.Order.{interfaces_taken}
use Rattle.record_versions.proofs.order.interfaces_taken.Given as goal

abbrev pub invariant-loop-name : goal.invariant-loop-name
invariant-loop-name l =
    (goal.iterator-loop-name).can_next l.name-iterator ×
    (goal.iterator-loop-name).is_finite l.name-iterator ×
    (interfaces_taken l.table l.name-iterator ≡ interfaces_taken [] l.taken)
