use Rattle.std.proofs.Common.{◌↔◌}
use Rattle.std.specs.List.{AllByRecursion}
use Rattle.record_resolve.specs.Resolved.{IsNamed}
use Rattle.record_resolve.proofs.resolving.all_named.Given as goal

abbrev pub invariant-loop-key : goal.invariant-loop-key
invariant-loop-key l =
    goal.iterator-loop-key.can_next l.key-iterator ×
    goal.iterator-loop-key.is_finite l.key-iterator ×
    (AllByRecursion IsNamed l.items ↔ AllByRecursion IsNamed l.key-iterator)
