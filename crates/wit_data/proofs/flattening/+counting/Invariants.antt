use Rattle.std.proofs.Common.{◌+◌, ◌*◌}
use Rattle.wit_data.specs.Parts.{height}
use Rattle.wit_data.proofs.Counts.{TotalSoFar, GreatestSoFar}
use Rattle.wit_data.proofs.FlatCounts.{part_counts}
use Rattle.wit_data.proofs.flattening.+counting.Given as goal

abbrev pub decreases-flat_count : goal.decreases-flat_count
decreases-flat_count l = 3 * height l.part

abbrev pub decreases-shape_count : goal.decreases-shape_count
decreases-shape_count l = 3 * l.id + 2

abbrev pub decreases-count_of_longest : goal.decreases-count_of_longest
decreases-count_of_longest l = 3 * l.id + 1

abbrev pub decreases-count_together : goal.decreases-count_together
decreases-count_together l = 3 * l.id + 1

abbrev pub invariant-count_of_longest-loop-index : goal.invariant-count_of_longest-loop-index
invariant-count_of_longest-loop-index l = GreatestSoFar 17 l.most l.index (part_counts l.types l.id)

abbrev pub invariant-count_together-loop-index : goal.invariant-count_together-loop-index
invariant-count_together-loop-index l = TotalSoFar 17 l.total l.index (part_counts l.types l.id)
