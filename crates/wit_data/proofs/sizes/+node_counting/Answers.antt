use Rattle.std.proofs.Common.{◌<◌, length, refl, arith}
use Rattle.wit_data.specs.Values.{part_values, kind_at}
use Rattle.wit_data.specs.Parts.{parts}
use Rattle.wit_data.specs.Sizes.{counting_nodes}
use Rattle.wit_data.proofs.Counts.{total_step, total_stop}
use Rattle.wit_data.proofs.Limits.{nodes_at, counted_at, length_counts}
use Rattle.wit_data.proofs.sizes.+node_counting.Goals as goal

pub node_count_of-returns : goal.node_count_of-returns
node_count_of-returns t c =
    omega (arith, nodes_at c.args.types.now c.args.id c.requires.back c.requires.present, c.nodes_together-total.ensures, c.min.ensures)

pub nodes_together-returns-then-total-ge-MANY_NODES : goal.nodes_together-returns-then-total-ge-MANY_NODES
nodes_together-returns-then-total-ge-MANY_NODES t c =
    let here : c.loop-index.index < length (parts (kind_at c.args.types.now c.args.id)) = omega (arith, c.loop-index-test.true, c.part_count_of-index-end.ensures) in
    let within : c.loop-index.index < length (part_values counting_nodes c.args.types.now c.args.id) = omega (arith, here, length_counts counting_nodes c.args.types.now c.args.id) in
    let counted = counted_at counting_nodes 10001 c.args.types.now c.args.id c.loop-index.index c.node_count-total.result c.part_of.result here c.node_count-total.ensures.count c.part_of.ensures.value in
    total_stop 10001 c.loop-index.total c.loop-index.index c.node_count-total.result (part_values counting_nodes c.args.types.now c.args.id) within counted c.if-total-ge-MANY_NODES.true c.loop-index.invariant

pub nodes_together-loop-index-preserved : goal.nodes_together-loop-index-preserved
nodes_together-loop-index-preserved t c =
    let here : c.loop-index.index < length (parts (kind_at c.args.types.now c.args.id)) = omega (arith, c.loop-index-test.true, c.part_count_of-index-end.ensures) in
    let within : c.loop-index.index < length (part_values counting_nodes c.args.types.now c.args.id) = omega (arith, here, length_counts counting_nodes c.args.types.now c.args.id) in
    let counted = counted_at counting_nodes 10001 c.args.types.now c.args.id c.loop-index.index c.node_count-total.result c.part_of.result here c.node_count-total.ensures.count c.part_of.ensures.value in
    total_step 10001 c.loop-index.total c.loop-index.index c.node_count-total.result (part_values counting_nodes c.args.types.now c.args.id) within counted (omega (arith, c.if-total-ge-MANY_NODES.false)) c.loop-index.invariant
