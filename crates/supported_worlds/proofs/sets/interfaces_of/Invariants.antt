use Rattle.supported_worlds.proofs.Gathered.{LineSoFar}
use Rattle.supported_worlds.proofs.sets.interfaces_of.Given as goal

abbrev pub invariant-loop-item : goal.invariant-loop-item
invariant-loop-item l = goal.iterator-loop-item.can_next l.item-iterator × goal.iterator-loop-item.is_finite l.item-iterator × LineSoFar l.items l.item-iterator l.line.items
