use Rattle.root_imports.specs.Keeping.{RootKept}
use Rattle.main_fixup.proofs.EachArgument.{ArgumentsSoFar}
use Rattle.main_fixup.proofs.arguments.fixup_arguments.Given as goal

abbrev pub invariant-loop-name : goal.invariant-loop-name
invariant-loop-name l =
    goal.iterator-loop-name.can_next l.name-iterator ×
    goal.iterator-loop-name.is_finite l.name-iterator ×
    RootKept l.fn.root.world.now l.fn.root l.root ×
    ArgumentsSoFar l.fn.root.world.now l.fn.instances l.fn.root.items l.root.items l.arguments l.name-iterator
