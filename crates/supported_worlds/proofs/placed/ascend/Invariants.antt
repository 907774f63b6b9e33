use Rattle.std.proofs.Common.{◌≡◌, ◌<◌, length, map}
use Rattle.std.specs.List.{AllByRecursion}
use Rattle.supported_worlds.specs.Placed.{ascend_from}
use Rattle.supported_worlds.proofs.placed.ascend.Given as goal

abbrev pub invariant-loop-ty : goal.invariant-loop-ty
invariant-loop-ty l =
    goal.iterator-loop-ty.can_next l.ty-iterator ×
    goal.iterator-loop-ty.is_finite l.ty-iterator ×
    AllByRecursion (λ t. t.1.index < length l.types) l.ty-iterator ×
    (ascend_from l.next (map (λ t. t.1.index) l.ty-iterator) ≡ ascend_from 0 (map (λ t. t.1.index) l.listed))
