use Rattle.root_imports.specs.Keeping.{RootKept}
use Rattle.core_instances.proofs.UserInstances.{AdaptersSoFar}
use Rattle.core_instances.proofs.users.instantiate_adapters.Given as goal

abbrev pub invariant-loop-name : goal.invariant-loop-name
invariant-loop-name l =
    goal.iterator-loop-name.can_next l.name-iterator ×
    goal.iterator-loop-name.is_finite l.name-iterator ×
    RootKept l.fn.root.world.now l.fn.root l.root ×
    AdaptersSoFar l.fn.root.world.now l.fn.root.items l.root.items l.table l.last l.name-iterator
