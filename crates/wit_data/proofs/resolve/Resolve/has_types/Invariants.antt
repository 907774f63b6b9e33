use Rattle.std.proofs.Common.{◌↔◌}
use Rattle.std.specs.List.{AllByRecursion}
use Rattle.wit_data.specs.Sound.{HasTypeId}
use Rattle.wit_data.proofs.resolve.Resolve.has_types.Given as goal

abbrev pub invariant-loop-id : goal.invariant-loop-id
invariant-loop-id l =
    goal.iterator-loop-id.can_next l.id-iterator ×
    goal.iterator-loop-id.is_finite l.id-iterator ×
    (AllByRecursion (λ t. HasTypeId l.self t.1) l.types ↔ AllByRecursion (λ t. HasTypeId l.self t.1) l.id-iterator)
