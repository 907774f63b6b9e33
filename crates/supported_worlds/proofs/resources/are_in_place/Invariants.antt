use Rattle.std.proofs.Common.{◌≤◌, length}
use Rattle.std.specs.List.{AllByRecursion}
use Rattle.wit_data.specs.Sound.{HasEntry}
use Rattle.supported_worlds.proofs.InPlace.{StillInPlace}
use Rattle.supported_worlds.proofs.resources.are_in_place.Given as goal

abbrev pub invariant-loop-key : goal.invariant-loop-key
invariant-loop-key l =
    goal.iterator-loop-key.can_next l.key-iterator ×
    goal.iterator-loop-key.is_finite l.key-iterator ×
    AllByRecursion (HasEntry l.resolve) l.key-iterator ×
    (l.next ≤ length l.resolve.types) ×
    StillInPlace l.resolve.types l.next l.key-iterator l.imports
