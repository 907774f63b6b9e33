use Rattle.std.proofs.Common.{◌≡◌, ◌++◌, take}
use Rattle.std.specs.List.{flat_map}
use Rattle.world_warnings.specs.Types.{node_warnings}
use Rattle.world_warnings.proofs.types.add_nodes.Given as goal

abbrev pub invariant-loop-node : goal.invariant-loop-node
invariant-loop-node l = l.warnings ≡ l.fn.warnings ++ flat_map (node_warnings l.path) (take l.node-index l.nodes)
