use Rattle.std.proofs.Common.{◌≡◌, false, drop}
use Rattle.world_warnings.specs.Nodes.{streams_char}
use Rattle.world_warnings.proofs.nodes.has_char_stream.Given as goal

abbrev pub invariant-loop-node : goal.invariant-loop-node
invariant-loop-node l = streams_char l.after_char (drop l.node-index l.nodes) ≡ streams_char false l.nodes
