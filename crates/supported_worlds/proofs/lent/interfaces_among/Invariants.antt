use Rattle.supported_worlds.proofs.Lending.{InterfacesSoFar}
use Rattle.supported_worlds.proofs.lent.interfaces_among.Given as goal

abbrev pub invariant-loop-item : goal.invariant-loop-item
invariant-loop-item l = goal.iterator-loop-item.can_next l.item-iterator × goal.iterator-loop-item.is_finite l.item-iterator × InterfacesSoFar l.items l.item-iterator l.set
