use Rattle.std.proofs.Common.{◌≡◌, ◌<◌, ◌≤◌, length, min, max, [], ◌∷◌, ap, ◌∙◌, sym, arith}
use Rattle.wit_data.specs.Values.{part_values, kind_at}
use Rattle.wit_data.specs.Parts.{parts}
use Rattle.wit_data.specs.Flat.{flattening, joined}
use Rattle.wit_data.specs.declared.flattening.Shape.TheVariants.{Single, Pair, Product, Sum}
use Rattle.wit_data.specs.declared.signatures.WasmType.TheVariants.{I32}
use Rattle.wit_data.proofs.Counts.{total_step, total_stop, total_end, greatest_step, greatest_stop, greatest_end}
use Rattle.wit_data.proofs.FlatCounts.{flat_at, part_counts, part_count_at, length_part_counts, length_together, longest_joined}
use Rattle.wit_data.proofs.flattening.+counting.Goals as goal

pub shape_count-returns-in-Single : goal.shape_count-returns-in-Single
shape_count-returns-in-Single t c = ap (λ fs. min (length fs) 17) (sym (flat_at c.args.types.now c.args.id c.index-types-id.result Single c.requires.back c.requires.present (sym c.shape_of.ensures ∙ c.in-Single.is)))

pub shape_count-returns-in-Pair : goal.shape_count-returns-in-Pair
shape_count-returns-in-Pair t c = ap (λ fs. min (length fs) 17) (sym (flat_at c.args.types.now c.args.id c.index-types-id.result Pair c.requires.back c.requires.present (sym c.shape_of.ensures ∙ c.in-Pair.is)))

pub shape_count-returns-in-Product : goal.shape_count-returns-in-Product
shape_count-returns-in-Product t c = c.count_together.ensures ∙ ap (λ fs. min (length fs) 17) (sym (flat_at c.args.types.now c.args.id c.index-types-id.result Product c.requires.back c.requires.present (sym c.shape_of.ensures ∙ c.in-Product.is)))

pub shape_count-returns-in-Sum : goal.shape_count-returns-in-Sum
shape_count-returns-in-Sum t c =
    let m : c.tagged_count.result ≡ min (length (I32 ∷ joined [] (part_values flattening c.args.types.now c.args.id))) 17 = omega (arith, c.tagged_count.ensures, c.count_of_longest.ensures) in
    m ∙ ap (λ fs. min (length fs) 17) (sym (flat_at c.args.types.now c.args.id c.index-types-id.result Sum c.requires.back c.requires.present (sym c.shape_of.ensures ∙ c.in-Sum.is)))

pub count_together-loop-index-preserved : goal.count_together-loop-index-preserved
count_together-loop-index-preserved t c =
    let here : c.loop-index.index < length (parts (kind_at c.args.types.now c.args.id)) = omega (arith, c.loop-index-test.true, c.part_count_of-index-end.ensures) in
    let within : c.loop-index.index < length (part_counts c.args.types.now c.args.id) = omega (arith, here, length_part_counts c.args.types.now c.args.id) in
    let counted = part_count_at c.args.types.now c.args.id c.loop-index.index c.flat_count-total.result c.part_of.result here c.flat_count-total.ensures.count c.part_of.ensures.value in
    total_step 17 c.loop-index.total c.loop-index.index c.flat_count-total.result (part_counts c.args.types.now c.args.id) within counted (omega (arith, c.if-total-ge-MANY.false)) c.loop-index.invariant

pub count_together-returns-then-total-ge-MANY : goal.count_together-returns-then-total-ge-MANY
count_together-returns-then-total-ge-MANY t c =
    let here : c.loop-index.index < length (parts (kind_at c.args.types.now c.args.id)) = omega (arith, c.loop-index-test.true, c.part_count_of-index-end.ensures) in
    let within : c.loop-index.index < length (part_counts c.args.types.now c.args.id) = omega (arith, here, length_part_counts c.args.types.now c.args.id) in
    let counted = part_count_at c.args.types.now c.args.id c.loop-index.index c.flat_count-total.result c.part_of.result here c.flat_count-total.ensures.count c.part_of.ensures.value in
    total_stop 17 c.loop-index.total c.loop-index.index c.flat_count-total.result (part_counts c.args.types.now c.args.id) within counted c.if-total-ge-MANY.true c.loop-index.invariant
    ∙ ap (λ n. min n 17) (sym (length_together (part_values flattening c.args.types.now c.args.id)))

pub count_together-returns : goal.count_together-returns
count_together-returns t c =
    let all : length (part_counts c.args.types.now c.args.id) ≤ c.loop-index.index = omega (arith, c.loop-index-test.false, c.part_count_of-index-end.ensures, length_part_counts c.args.types.now c.args.id) in
    total_end 17 c.loop-index.total c.loop-index.index (part_counts c.args.types.now c.args.id) all c.loop-index.invariant
    ∙ ap (λ n. min n 17) (sym (length_together (part_values flattening c.args.types.now c.args.id)))

pub count_of_longest-loop-index-preserved : goal.count_of_longest-loop-index-preserved
count_of_longest-loop-index-preserved t c =
    let here : c.loop-index.index < length (parts (kind_at c.args.types.now c.args.id)) = omega (arith, c.loop-index-test.true, c.part_count_of-index-end.ensures) in
    let within : c.loop-index.index < length (part_counts c.args.types.now c.args.id) = omega (arith, here, length_part_counts c.args.types.now c.args.id) in
    let counted = part_count_at c.args.types.now c.args.id c.loop-index.index c.flat_count-count.result c.part_of.result here c.flat_count-count.ensures.count c.part_of.ensures.value in
    let larger : c.max-most.result ≡ max c.loop-index.most c.flat_count-count.result = omega (arith, c.max-most.ensures) in
    let small : c.max-most.result < 17 = omega (arith, larger, c.if-count-ge-MANY.false, c.loop-index.invariant.small) in
    greatest_step 17 c.loop-index.most c.loop-index.index c.flat_count-count.result c.max-most.result (part_counts c.args.types.now c.args.id) within counted larger small c.loop-index.invariant

pub count_of_longest-returns-then-count-ge-MANY : goal.count_of_longest-returns-then-count-ge-MANY
count_of_longest-returns-then-count-ge-MANY t c =
    let here : c.loop-index.index < length (parts (kind_at c.args.types.now c.args.id)) = omega (arith, c.loop-index-test.true, c.part_count_of-index-end.ensures) in
    let within : c.loop-index.index < length (part_counts c.args.types.now c.args.id) = omega (arith, here, length_part_counts c.args.types.now c.args.id) in
    let counted = part_count_at c.args.types.now c.args.id c.loop-index.index c.flat_count-count.result c.part_of.result here c.flat_count-count.ensures.count c.part_of.ensures.value in
    greatest_stop 17 c.loop-index.most c.loop-index.index c.flat_count-count.result (part_counts c.args.types.now c.args.id) within counted c.if-count-ge-MANY.true c.loop-index.invariant
    ∙ ap (λ n. min n 17) (sym (longest_joined (part_values flattening c.args.types.now c.args.id)))

pub count_of_longest-returns : goal.count_of_longest-returns
count_of_longest-returns t c =
    let all : length (part_counts c.args.types.now c.args.id) ≤ c.loop-index.index = omega (arith, c.loop-index-test.false, c.part_count_of-index-end.ensures, length_part_counts c.args.types.now c.args.id) in
    greatest_end 17 c.loop-index.most c.loop-index.index (part_counts c.args.types.now c.args.id) all c.loop-index.invariant
    ∙ ap (λ n. min n 17) (sym (longest_joined (part_values flattening c.args.types.now c.args.id)))
