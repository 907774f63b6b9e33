use Rattle.world_shims.proofs.Planned.{AppendedSoFar}
use Rattle.world_shims.proofs.plan.append_adapters.Given as goal

abbrev pub invariant-loop-name : goal.invariant-loop-name
invariant-loop-name l =
    goal.iterator-loop-name.can_next l.name-iterator ×
    goal.iterator-loop-name.is_finite l.name-iterator ×
    AppendedSoFar l.world l.fn.shims l.world.adapters l.shims l.name-iterator
