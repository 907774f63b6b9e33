use Rattle.std.proofs.Common.{◌≡◌, drop}
use Rattle.record_worlds.specs.Rules.{nodes_in_scope}
use Rattle.record_worlds.proofs.rules.nodes_in_scope.Given as goal

abbrev pub invariant-loop-node : goal.invariant-loop-node
invariant-loop-node l = nodes_in_scope l.scope l.more (drop l.node-index l.nodes) ≡ nodes_in_scope l.scope l.more l.nodes
