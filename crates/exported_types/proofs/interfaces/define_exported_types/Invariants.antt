use Rattle.exported_types.proofs.ModuleKeys.{ModulesDone}
use Rattle.exported_types.proofs.interfaces.define_exported_types.Given as goal

abbrev pub invariant-loop-name : goal.invariant-loop-name
invariant-loop-name l =
    goal.iterator-loop-name.can_next l.name-iterator ×
    goal.iterator-loop-name.is_finite l.name-iterator ×
    ModulesDone l.fn.root.world.now l.fn.root l.root l.name-iterator
