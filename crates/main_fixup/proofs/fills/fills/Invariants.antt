use Rattle.root_imports.specs.Keeping.{RootKept}
use Rattle.main_fixup.proofs.Filled.{FillsSoFar}
use Rattle.main_fixup.proofs.fills.fills.Given as goal

abbrev pub invariant-loop-shim : goal.invariant-loop-shim
invariant-loop-shim l =
    goal.iterator-loop-shim.can_next l.shim-iterator ×
    goal.iterator-loop-shim.is_finite l.shim-iterator ×
    RootKept l.fn.root.world.now l.fn.root l.root ×
    FillsSoFar l.fn.root.world.now l.fn.root.items l.root.items l.entries l.shim-iterator
