use Rattle.std.proofs.Common.{◌≡◌, ◌++◌, drop}
use Rattle.record_versions.specs.Uses.{of_nodes}
use Rattle.record_versions.proofs.uses.nodes_use.Given as goal

abbrev pub invariant-loop-node : goal.invariant-loop-node
invariant-loop-node l = l.names ++ of_nodes (drop l.node-index l.nodes) ≡ of_nodes l.nodes
