use Rattle.std.proofs.Common.{◌≡◌, ◌<◌, ◌++◌, length, get_or, false, map, filter}
use Rattle.std.specs.List.{AllByRecursion}
use Rattle.wit_data.proofs.liveness.marked_of.Given as goal

abbrev pub invariant-loop-id : goal.invariant-loop-id
invariant-loop-id l =
    goal.iterator-loop-id.can_next l.id-iterator ×
    goal.iterator-loop-id.is_finite l.id-iterator ×
    AllByRecursion (λ entry. entry.1.index < length l.marks) l.id-iterator ×
    (l.found.items ++ filter (λ id. get_or l.marks id.index false) (map (λ entry. entry.1) l.id-iterator) ≡ filter (λ id. get_or l.marks id.index false) (map (λ entry. entry.1) l.named))
