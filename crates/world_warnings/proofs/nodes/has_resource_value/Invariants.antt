use Rattle.std.proofs.Common.{◌≡◌, drop}
use Rattle.std.specs.List.{list_any}
use Rattle.world_warnings.specs.Nodes.{is_resource_value}
use Rattle.world_warnings.proofs.nodes.has_resource_value.Given as goal

abbrev pub invariant-loop-node : goal.invariant-loop-node
invariant-loop-node l = list_any (is_resource_value l.resources) (drop l.node-index l.nodes) ≡ list_any (is_resource_value l.resources) l.nodes
