use Rattle.std.proofs.Common.{◌≡◌, []}
use Rattle.record_worlds.specs.Indexing.{types_after}
use Rattle.record_worlds.proofs.indexing.types_of.Given as goal

abbrev pub invariant-loop-name : goal.invariant-loop-name
invariant-loop-name l =
    (goal.iterator-loop-name).can_next l.name-iterator ×
    (goal.iterator-loop-name).is_finite l.name-iterator ×
    (types_after l.types l.name-iterator ≡ types_after [] l.known)
