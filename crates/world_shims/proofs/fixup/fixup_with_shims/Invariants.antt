use Rattle.world_shims.proofs.Adding.{AddedSoFar}
use Rattle.world_shims.proofs.fixup.fixup_with_shims.Given as goal

abbrev pub invariant-loop-shim : goal.invariant-loop-shim
invariant-loop-shim l =
    goal.iterator-loop-shim.can_next l.shim-iterator ×
    goal.iterator-loop-shim.is_finite l.shim-iterator ×
    AddedSoFar l.shims l.fixup l.shim-iterator
