use Rattle.exported_types.proofs.Entering.{ListedSoFar}
use Rattle.exported_types.proofs.interfaces.define_types_of.Given as goal

abbrev pub invariant-loop-entry : goal.invariant-loop-entry
invariant-loop-entry l =
    goal.iterator-loop-entry.can_next l.entry-iterator ×
    goal.iterator-loop-entry.is_finite l.entry-iterator ×
    ListedSoFar l.fn.root.world.now l.fn.root l.root l.types l.entry-iterator
