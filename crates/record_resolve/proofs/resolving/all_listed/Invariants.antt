use Rattle.std.proofs.Common.{◌↔◌}
use Rattle.std.specs.List.{AllByRecursion}
use Rattle.record_resolve.specs.Resolved.{IsListed}
use Rattle.record_resolve.proofs.resolving.all_listed.Given as goal

abbrev pub invariant-loop-name : goal.invariant-loop-name
invariant-loop-name l =
    goal.iterator-loop-name.can_next l.name-iterator ×
    goal.iterator-loop-name.is_finite l.name-iterator ×
    (AllByRecursion IsListed l.functions ↔ AllByRecursion IsListed l.name-iterator)
