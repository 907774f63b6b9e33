use Rattle.std.proofs.Common.{◌≡◌, ◌++◌, drop, map}
use Rattle.record_values.specs.Renaming.{renamed_node}
use Rattle.record_values.proofs.renaming.rename_nodes.Given as goal

abbrev pub invariant-loop-node : goal.invariant-loop-node
invariant-loop-node l = l.renamed ++ map (renamed_node l.renames) (drop l.node-index l.nodes) ≡ map (renamed_node l.renames) l.nodes
