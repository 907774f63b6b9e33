use Rattle.std.proofs.Common.{◌≡◌, drop}
use Rattle.std.specs.List.{list_any}
use Rattle.world_warnings.specs.Facts.{node_borrows}
use Rattle.world_warnings.proofs.facts.borrows.Given as goal

abbrev pub invariant-loop-node : goal.invariant-loop-node
invariant-loop-node l = list_any (node_borrows l.table) (drop l.node-index l.nodes) ≡ list_any (node_borrows l.table) l.nodes
