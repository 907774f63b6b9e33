use Rattle.std.proofs.Common.{◌≡◌, ◌+◌, ◌*◌, ◌++◌, drop, []}
use Rattle.std.specs.List.{flat_map}
use Rattle.wit_data.specs.Flat.{flattening, joined}
use Rattle.wit_data.specs.Parts.{height}
use Rattle.wit_data.specs.Values.{part_values}
use Rattle.wit_data.proofs.flattening.+listing.Given as goal

abbrev pub decreases-flatten : goal.decreases-flatten
decreases-flatten l = 4 * height l.part

abbrev pub decreases-flatten_shape : goal.decreases-flatten_shape
decreases-flatten_shape l = 4 * l.id + 3

abbrev pub decreases-flatten_together : goal.decreases-flatten_together
decreases-flatten_together l = 4 * l.id + 1

abbrev pub decreases-flatten_cases : goal.decreases-flatten_cases
decreases-flatten_cases l = 4 * l.id + 2

abbrev pub decreases-joined_cases : goal.decreases-joined_cases
decreases-joined_cases l = 4 * l.id + 1

abbrev pub invariant-flatten_together-loop-index : goal.invariant-flatten_together-loop-index
invariant-flatten_together-loop-index l = l.out.items ++ flat_map (λ f. f) (drop l.index (part_values flattening l.types l.id)) ≡ l.fn.out.items ++ flat_map (λ f. f) (part_values flattening l.types l.id)

abbrev pub invariant-joined_cases-loop-index : goal.invariant-joined_cases-loop-index
invariant-joined_cases-loop-index l = joined l.values.items (drop l.index (part_values flattening l.types l.id)) ≡ joined [] (part_values flattening l.types l.id)
