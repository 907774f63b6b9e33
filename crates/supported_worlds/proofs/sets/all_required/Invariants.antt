use Rattle.supported_worlds.proofs.Keys.{AllSoFar}
use Rattle.supported_worlds.proofs.sets.all_required.Given as goal

abbrev pub invariant-loop-adapter : goal.invariant-loop-adapter
invariant-loop-adapter l =
    goal.iterator-loop-adapter.can_next l.adapter-iterator ×
    goal.iterator-loop-adapter.is_finite l.adapter-iterator ×
    AllSoFar l.main l.adapters l.adapter-iterator l.keys
