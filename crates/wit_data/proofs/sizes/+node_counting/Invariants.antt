use Rattle.std.proofs.Common.{◌+◌, ◌*◌}
use Rattle.wit_data.specs.Parts.{height}
use Rattle.wit_data.specs.Values.{part_values}
use Rattle.wit_data.specs.Sizes.{counting_nodes}
use Rattle.wit_data.proofs.Counts.{TotalSoFar}
use Rattle.wit_data.proofs.sizes.+node_counting.Given as goal

abbrev pub decreases-node_count : goal.decreases-node_count
decreases-node_count l = 3 * height l.part

abbrev pub decreases-node_count_of : goal.decreases-node_count_of
decreases-node_count_of l = 3 * l.id + 2

abbrev pub decreases-nodes_together : goal.decreases-nodes_together
decreases-nodes_together l = 3 * l.id + 1

abbrev pub invariant-nodes_together-loop-index : goal.invariant-nodes_together-loop-index
invariant-nodes_together-loop-index l = TotalSoFar 10001 l.total l.index (part_values counting_nodes l.types l.id)
