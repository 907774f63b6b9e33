use Rattle.std.proofs.Common.{◌≡◌, ◌++◌, [], drop, map}
use Rattle.record_texts.specs.Types.{stack_view, stack_after}
use Rattle.record_texts.proofs.types.type_value.Given as goal

abbrev pub invariant-loop-node : goal.invariant-loop-node
invariant-loop-node l = stack_after l.indices (stack_view l.stack) (drop l.node-index l.nodes) ≡ stack_after l.indices [] l.nodes
