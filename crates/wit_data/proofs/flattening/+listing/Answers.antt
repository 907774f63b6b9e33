use Rattle.std.proofs.Common.{◌≡◌, ◌<◌, ◌++◌, length, ap, ◌∙◌, sym, subst, arith, OnOk}
use Rattle.wit_data.specs.Values.{part_values, kind_at}
use Rattle.wit_data.specs.Parts.{parts}
use Rattle.wit_data.specs.Flat.{flat, flattening, join_lists}
use Rattle.wit_data.specs.declared.flattening.Shape.TheVariants.{Single, Pair, Product, Sum}
use Rattle.wit_data.proofs.FlatCounts.{flat_at, flat_part_at, together_step, cases_step, length_parts}
use Rattle.wit_data.proofs.flattening.+listing.Goals as goal

pub flatten_shape-returns-in-Single : goal.flatten_shape-returns-in-Single
flatten_shape-returns-in-Single t c =
    subst (λ vs. OnOk c.push_type.result (c.push_type.new.out.items ≡ c.args.out.now.items ++ vs))
    (sym (flat_at c.args.types.now c.args.id c.index-types-id.result Single c.requires.back c.requires.present (sym c.shape_of.ensures ∙ c.in-Single.is))) c.push_type.ensures

pub flatten_shape-returns-in-Pair : goal.flatten_shape-returns-in-Pair
flatten_shape-returns-in-Pair t c =
    subst (λ vs. OnOk c.push_pair.result (c.push_pair.new.out.items ≡ c.args.out.now.items ++ vs))
    (sym (flat_at c.args.types.now c.args.id c.index-types-id.result Pair c.requires.back c.requires.present (sym c.shape_of.ensures ∙ c.in-Pair.is))) c.push_pair.ensures

pub flatten_shape-returns-in-Product : goal.flatten_shape-returns-in-Product
flatten_shape-returns-in-Product t c =
    subst (λ vs. OnOk c.flatten_together.result (c.flatten_together.new.out.items ≡ c.args.out.now.items ++ vs))
    (sym (flat_at c.args.types.now c.args.id c.index-types-id.result Product c.requires.back c.requires.present (sym c.shape_of.ensures ∙ c.in-Product.is))) c.flatten_together.ensures

pub flatten_shape-returns-in-Sum : goal.flatten_shape-returns-in-Sum
flatten_shape-returns-in-Sum t c =
    subst (λ vs. OnOk c.flatten_cases.result (c.flatten_cases.new.out.items ≡ c.args.out.now.items ++ vs))
    (sym (flat_at c.args.types.now c.args.id c.index-types-id.result Sum c.requires.back c.requires.present (sym c.shape_of.ensures ∙ c.in-Sum.is))) c.flatten_cases.ensures

pub flatten_together-loop-index-preserved : goal.flatten_together-loop-index-preserved
flatten_together-loop-index-preserved t c =
    let fs = part_values flattening c.args.types.now c.args.id in
    let here : c.loop-index.index < length (parts (kind_at c.args.types.now c.args.id)) = omega (arith, c.loop-index-test.true, c.part_count_of-index-end.ensures) in
    let within : c.loop-index.index < length fs = omega (arith, here, length_parts c.args.types.now c.args.id) in
    together_step c.args.out.now.items c.loop-index.out.items c.flatten.new.out.items fs c.loop-index.index (flat c.args.types.now c.part_of.result) within
    (flat_part_at c.args.types.now c.args.id c.loop-index.index c.part_of.result here c.part_of.ensures.value) c.in_ok-flatten.ensures c.loop-index.invariant

pub joined_cases-loop-index-preserved : goal.joined_cases-loop-index-preserved
joined_cases-loop-index-preserved t c =
    let fs = part_values flattening c.args.types.now c.args.id in
    let here : c.loop-index.index < length (parts (kind_at c.args.types.now c.args.id)) = omega (arith, c.loop-index-test.true, c.part_count_of-index-end.ensures) in
    let within : c.loop-index.index < length fs = omega (arith, here, length_parts c.args.types.now c.args.id) in
    let case : c.flatten.new.out.items ≡ flat c.args.types.now c.part_of.result = c.in_ok-flatten.ensures ∙ ap (λ vs. vs ++ flat c.args.types.now c.part_of.result) c.new-case.ensures.items in
    cases_step c.loop-index.values.items c.join_into.new.values.items fs c.loop-index.index c.flatten.new.out.items within
    (case ∙ flat_part_at c.args.types.now c.args.id c.loop-index.index c.part_of.result here c.part_of.ensures.value)
    (c.in_ok-join_into.ensures ∙ ap (λ vs. join_lists c.loop-index.values.items vs) c.as_slice.ensures.value) c.loop-index.invariant
