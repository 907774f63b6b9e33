use Rattle.std.proofs.Common.{◌≡◌, ◌<◌, length, max, refl, arith}
use Rattle.wit_data.specs.Values.{part_values, kind_at}
use Rattle.wit_data.specs.Parts.{parts}
use Rattle.wit_data.specs.Sizes.{counting_levels}
use Rattle.wit_data.proofs.Counts.{greatest_step, greatest_stop}
use Rattle.wit_data.proofs.Limits.{levels_at, counted_at, length_counts}
use Rattle.wit_data.proofs.sizes.+level_counting.Goals as goal

pub level_count_of-returns : goal.level_count_of-returns
level_count_of-returns t c =
    omega (arith, levels_at c.args.types.now c.args.id c.requires.back c.requires.present, c.most_levels-most.ensures, c.min.ensures)

pub most_levels-returns-then-count-ge-MANY_LEVELS : goal.most_levels-returns-then-count-ge-MANY_LEVELS
most_levels-returns-then-count-ge-MANY_LEVELS t c =
    let here : c.loop-index.index < length (parts (kind_at c.args.types.now c.args.id)) = omega (arith, c.loop-index-test.true, c.part_count_of-index-end.ensures) in
    let within : c.loop-index.index < length (part_values counting_levels c.args.types.now c.args.id) = omega (arith, here, length_counts counting_levels c.args.types.now c.args.id) in
    let counted = counted_at counting_levels 101 c.args.types.now c.args.id c.loop-index.index c.level_count-count.result c.part_of.result here c.level_count-count.ensures.count c.part_of.ensures.value in
    greatest_stop 101 c.loop-index.most c.loop-index.index c.level_count-count.result (part_values counting_levels c.args.types.now c.args.id) within counted c.if-count-ge-MANY_LEVELS.true c.loop-index.invariant

pub most_levels-loop-index-preserved : goal.most_levels-loop-index-preserved
most_levels-loop-index-preserved t c =
    let here : c.loop-index.index < length (parts (kind_at c.args.types.now c.args.id)) = omega (arith, c.loop-index-test.true, c.part_count_of-index-end.ensures) in
    let within : c.loop-index.index < length (part_values counting_levels c.args.types.now c.args.id) = omega (arith, here, length_counts counting_levels c.args.types.now c.args.id) in
    let counted = counted_at counting_levels 101 c.args.types.now c.args.id c.loop-index.index c.level_count-count.result c.part_of.result here c.level_count-count.ensures.count c.part_of.ensures.value in
    let larger : c.max-most.result ≡ max c.loop-index.most c.level_count-count.result = omega (arith, c.max-most.ensures) in
    let small : c.max-most.result < 101 = omega (arith, larger, c.if-count-ge-MANY_LEVELS.false, c.loop-index.invariant.small) in
    greatest_step 101 c.loop-index.most c.loop-index.index c.level_count-count.result c.max-most.result (part_values counting_levels c.args.types.now c.args.id) within counted larger small c.loop-index.invariant
