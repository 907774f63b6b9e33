use Rattle.std.proofs.Common.{◌≡◌, ◌≤◌, drop}
use Rattle.world_warnings.specs.Handles.{make_types}
use Rattle.world_warnings.proofs.handles.make_types.Given as goal

abbrev pub invariant-loop-node : goal.invariant-loop-node
invariant-loop-node l = (make_types l.wanted l.made (drop l.node-index l.nodes) ≡ make_types l.wanted 0 l.nodes) × (l.made ≤ l.node-index)
