use Rattle.exported_types.proofs.ModuleKeys.{KeysSoFar}
use Rattle.exported_types.proofs.interfaces.define_types_of_module.Given as goal

abbrev pub invariant-loop-key : goal.invariant-loop-key
invariant-loop-key l = KeysSoFar l.fn.root.world.now l.keys l.fn.root l.root l.key-index
