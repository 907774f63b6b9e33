use Rattle.std.proofs.Common.{◌↔◌}
use Rattle.std.specs.List.{AllByRecursion}
use Rattle.tests_of_shims.proofs.Returned.{IsOwned}
use Rattle.tests_of_shims.proofs.returns.others_returned.Given as goal

abbrev pub invariant-loop-name : goal.invariant-loop-name
invariant-loop-name l =
    goal.iterator-loop-name.can_next l._name-iterator ×
    goal.iterator-loop-name.is_finite l._name-iterator ×
    (AllByRecursion (λ a. IsOwned l.resolve a.1.info) l.adapters ↔ AllByRecursion (λ a. IsOwned l.resolve a.1.info) l._name-iterator)
