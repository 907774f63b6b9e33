use Rattle.std.proofs.Common.{◌≡◌, ◌<◌, ◌++◌, length}
use Rattle.std.specs.List.{AllByRecursion}
use Rattle.nested_components.specs.Types.{own_resources}
use Rattle.nested_components.proofs.resources.own_resources.Given as goal

abbrev pub invariant-loop-id : goal.invariant-loop-id
invariant-loop-id l =
    goal.iterator-loop-id.can_next l.id-iterator ×
    goal.iterator-loop-id.is_finite l.id-iterator ×
    record {
      present : AllByRecursion (λ t. t.1.index < length l.resolve.types) l.id-iterator;
      so_far : l.ids ++ own_resources l.resolve.types l.id-iterator ≡ own_resources l.resolve.types l.types;
    }
