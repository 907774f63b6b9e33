use Rattle.std.proofs.Common.{◌≡◌, [], drop}
use Rattle.record_resolve.specs.Types.{after_nodes}
use Rattle.record_resolve.proofs.types.push_nodes.Given as goal

abbrev pub invariant-loop-node : goal.invariant-loop-node
invariant-loop-node l = after_nodes l.side (drop l.node-index l.nodes) (l.stack.items, l.making) ≡ after_nodes l.side l.nodes ([], l.fn.making)
