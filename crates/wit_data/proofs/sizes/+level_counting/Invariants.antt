use Rattle.std.proofs.Common.{◌+◌, ◌*◌}
use Rattle.wit_data.specs.Parts.{height}
use Rattle.wit_data.specs.Values.{part_values}
use Rattle.wit_data.specs.Sizes.{counting_levels}
use Rattle.wit_data.proofs.Counts.{GreatestSoFar}
use Rattle.wit_data.proofs.sizes.+level_counting.Given as goal

abbrev pub decreases-level_count : goal.decreases-level_count
decreases-level_count l = 3 * height l.part

abbrev pub decreases-level_count_of : goal.decreases-level_count_of
decreases-level_count_of l = 3 * l.id + 2

abbrev pub decreases-most_levels : goal.decreases-most_levels
decreases-most_levels l = 3 * l.id + 1

abbrev pub invariant-most_levels-loop-index : goal.invariant-most_levels-loop-index
invariant-most_levels-loop-index l = GreatestSoFar 101 l.most l.index (part_values counting_levels l.types l.id)
