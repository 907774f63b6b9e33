use Rattle.std.proofs.Common.{◌≡◌, drop}
use Rattle.std.specs.List.{list_any}
use Rattle.world_warnings.specs.Nodes.{needs_name}
use Rattle.world_warnings.proofs.nodes.has_unnamed.Given as goal

abbrev pub invariant-loop-node : goal.invariant-loop-node
invariant-loop-node l = list_any needs_name (drop l.node-index l.nodes) ≡ list_any needs_name l.nodes
