use Rattle.std.proofs.Common.{◌<◌, ◌≤◌, length, min, ap, ◌∙◌, sym, arith}
use Rattle.wit_data.proofs.Counts.{total_step, total_stop, total_end}
use Rattle.wit_data.proofs.Passing.{param_counts, param_count_at, length_param_counts, length_params}
use Rattle.wit_data.proofs.signatures.param_count.Goals as goal

pub loop-index-preserved : goal.loop-index-preserved
loop-index-preserved c =
    let here : c.loop-index.index < length c.args.params.now = omega (arith, c.loop-index-test.true) in
    let within : c.loop-index.index < length (param_counts c.args.types.now c.args.params.now) = omega (arith, here, length_param_counts c.args.types.now c.args.params.now) in
    let counted = param_count_at c.args.types.now c.args.params.now c.loop-index.index c.flat_count-total.result c.index-params-index.result here c.flat_count-total.ensures.count in
    total_step 17 c.loop-index.total c.loop-index.index c.flat_count-total.result (param_counts c.args.types.now c.args.params.now) within counted (omega (arith, c.if-total-ge-MANY.false)) c.loop-index.invariant

pub returns-then-total-ge-MANY : goal.returns-then-total-ge-MANY
returns-then-total-ge-MANY c =
    let here : c.loop-index.index < length c.args.params.now = omega (arith, c.loop-index-test.true) in
    let within : c.loop-index.index < length (param_counts c.args.types.now c.args.params.now) = omega (arith, here, length_param_counts c.args.types.now c.args.params.now) in
    let counted = param_count_at c.args.types.now c.args.params.now c.loop-index.index c.flat_count-total.result c.index-params-index.result here c.flat_count-total.ensures.count in
    total_stop 17 c.loop-index.total c.loop-index.index c.flat_count-total.result (param_counts c.args.types.now c.args.params.now) within counted c.if-total-ge-MANY.true c.loop-index.invariant
    ∙ ap (λ n. min n 17) (sym (length_params c.args.types.now c.args.params.now))

pub returns : goal.returns
returns c =
    let all : length (param_counts c.args.types.now c.args.params.now) ≤ c.loop-index.index = omega (arith, c.loop-index-test.false, length_param_counts c.args.types.now c.args.params.now) in
    total_end 17 c.loop-index.total c.loop-index.index (param_counts c.args.types.now c.args.params.now) all c.loop-index.invariant
    ∙ ap (λ n. min n 17) (sym (length_params c.args.types.now c.args.params.now))
