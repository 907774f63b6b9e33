use Rattle.std.proofs.Common.{◌<◌, ◌+◌, length, subst, sym, arith}
use Rattle.wit_data.specs.Parts.{parts}
use Rattle.wit_data.specs.Values.{part_values, kind_at}
use Rattle.wit_data.specs.Contents.{finding_texts, finding_lists}
use Rattle.wit_data.proofs.Meeting.{MetSoFar, met_step, met_at, parts_long, texts_entered, texts_closed, lists_entered, lists_closed}
use Rattle.wit_data.proofs.contents.+meeting.Goals as goal

pub met_in_kind-returns-then-is_entered-clause-text : goal.met_in_kind-returns-then-is_entered-clause-text
met_in_kind-returns-then-is_entered-clause-text t c = texts_entered c.args.types.now c.args.id c.kind_of-kind.result.now c.is_entered.result c.met_in_parts.result.text c.requires.sound c.requires.present c.kind_of-kind.ensures c.is_entered.ensures c.if-is_entered.true c.met_in_parts.ensures.text

pub met_in_kind-returns-then-is_entered-clause-list : goal.met_in_kind-returns-then-is_entered-clause-list
met_in_kind-returns-then-is_entered-clause-list t c = lists_entered c.args.types.now c.args.id c.kind_of-kind.result.now c.is_entered.result c.is_list.result c.met_in_parts.result.list c.requires.sound c.requires.present c.kind_of-kind.ensures c.is_entered.ensures c.if-is_entered.true c.is_list.ensures c.met_in_parts.ensures.list

pub met_in_kind-returns-else-is_entered-clause-text : goal.met_in_kind-returns-else-is_entered-clause-text
met_in_kind-returns-else-is_entered-clause-text t c = texts_closed c.args.types.now c.args.id c.kind_of-kind.result.now c.is_entered.result c.requires.sound c.requires.present c.kind_of-kind.ensures c.is_entered.ensures c.if-is_entered.false

pub met_in_kind-returns-else-is_entered-clause-list : goal.met_in_kind-returns-else-is_entered-clause-list
met_in_kind-returns-else-is_entered-clause-list t c = lists_closed c.args.types.now c.args.id c.kind_of-kind.result.now c.is_entered.result c.is_list.result c.requires.sound c.requires.present c.kind_of-kind.ensures c.is_entered.ensures c.if-is_entered.false c.is_list.ensures

pub met_in_parts-loop-n-preserved : goal.met_in_parts-loop-n-preserved
met_in_parts-loop-n-preserved t c =
    let texts = part_values finding_texts c.args.types.now c.args.id in
    let lists = part_values finding_lists c.args.types.now c.args.id in
    let in_range : c.loop-n.n < length (parts (kind_at c.args.types.now c.args.id)) = omega (arith, c.loop-n-test.true, c.part_count_of-n-end.ensures) in
    let text_in_range : c.loop-n.n < length texts = omega (arith, in_range, parts_long finding_texts c.args.types.now c.args.id) in
    let list_in_range : c.loop-n.n < length lists = omega (arith, in_range, parts_long finding_lists c.args.types.now c.args.id) in
    let text = met_at finding_texts c.args.types.now c.args.id c.loop-n.n c.met_in.result.text c.part_of.result in_range c.met_in.ensures.text c.part_of.ensures.value in
    let list = met_at finding_lists c.args.types.now c.args.id c.loop-n.n c.met_in.result.list c.part_of.result in_range c.met_in.ensures.list c.part_of.ensures.value in (
      subst (λ b. MetSoFar c.args.before.text b (c.loop-n.n + 1) texts) (sym c.or-met.ensures.text) (met_step c.args.before.text c.loop-n.met.text c.met_in.result.text c.loop-n.n texts text_in_range text c.loop-n.invariant.0),
      subst (λ b. MetSoFar c.args.before.list b (c.loop-n.n + 1) lists) (sym c.or-met.ensures.list) (met_step c.args.before.list c.loop-n.met.list c.met_in.result.list c.loop-n.n lists list_in_range list c.loop-n.invariant.1),
    )
