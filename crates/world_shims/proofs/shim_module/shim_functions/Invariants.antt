use Rattle.world_shims.proofs.Listing.{ListedSoFar}
use Rattle.world_shims.proofs.shim_module.shim_functions.Given as goal

abbrev pub invariant-loop-shim : goal.invariant-loop-shim
invariant-loop-shim l =
    goal.iterator-loop-shim.can_next l.shim-iterator ×
    goal.iterator-loop-shim.is_finite l.shim-iterator ×
    ListedSoFar l.shims l.types l.functions.items l.shim-iterator
