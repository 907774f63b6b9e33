use Rattle.std.proofs.Common.{◌<◌, [], length, get_or, arith}
use Rattle.wit_data.specs.Parts.{parts}
use Rattle.wit_data.specs.Values.{values, kind_at}
use Rattle.record_role_targets.specs.Payloads.{meeting}
use Rattle.record_role_targets.proofs.Walking.{walk_step_at, past_walked, type_walked, handle_walked}
use Rattle.record_role_targets.proofs.walks.+walking.Goals as goal

pub walk_parts-loop-part_index-preserved : goal.walk_parts-loop-part_index-preserved
walk_parts-loop-part_index-preserved t c =
    let here : c.loop-part_index.part_index < length (parts (kind_at c.args.types.now c.args.id)) = omega (arith, c.loop-part_index-test.true, c.part_count_of-part_index-end.ensures) in
    walk_step_at c.args.types.now c.args.id c.args.wanted.now c.args.walk.now c.loop-part_index.walk c.walk_part.new.walk c.loop-part_index.part_index c.part_of.result here c.in_ok-walk_part.ensures c.part_of.ensures.value c.loop-part_index.invariant

pub walk_type-returns-then-is_none : goal.walk_type-returns-then-is_none
walk_type-returns-then-is_none t c = past_walked c.args.wanted.now c.args.walk.now (get_or (values meeting c.args.types.now) c.args.id []) c.is_none.result c.is_none.ensures c.if-is_none.true

pub walk_type-returns-then-is_handle : goal.walk_type-returns-then-is_handle
walk_type-returns-then-is_handle t c =
    handle_walked c.args.types.now c.args.id c.args.wanted.now c.args.walk.now c.kind_of-kind.result.now c.is_handle.result c.requires.back c.requires.present c.kind_of-kind.ensures c.is_handle.ensures c.if-is_handle.true

pub walk_type-returns : goal.walk_type-returns
walk_type-returns t c =
    type_walked c.args.types.now c.args.id c.args.wanted.now c.args.walk.now c.walk_parts.new.walk c.pass_itself.new.walk c.kind_of-kind.result.now c.is_handle.result c.requires.back c.requires.present c.kind_of-kind.ensures c.is_handle.ensures c.if-is_handle.false
    c.in_ok-walk_parts.ensures c.in_ok-pass_itself.ensures
