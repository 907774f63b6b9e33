use Rattle.std.proofs.Common.{◌↔◌}
use Rattle.std.specs.List.{AllByRecursion}
use Rattle.wit_data.specs.Sound.{HasInterface}
use Rattle.record_resolve.proofs.resolving.are_there.Given as goal

abbrev pub invariant-loop-name : goal.invariant-loop-name
invariant-loop-name l =
    goal.iterator-loop-name.can_next l._name-iterator ×
    goal.iterator-loop-name.is_finite l._name-iterator ×
    (AllByRecursion (λ i. HasInterface l.resolve i.1) l.ids ↔ AllByRecursion (λ i. HasInterface l.resolve i.1) l._name-iterator)
