use Rattle.std.proofs.Common.{◌<◌, ◌≤◌, arith, refl, rules, length, Some, None}
use Rattle.wit_data.specs.Parts.{parts}
use Rattle.wit_data.specs.Values.{kind_at}
use Rattle.world_tables.proofs.Walking.{enters_none, enters_nothing, enters_again, enters_type, walk_type, met_more, met_all}
use Rattle.world_tables.proofs.meeting.+meeting.Goals as goal

pub meet_part-returns-in-None-clause-enters : goal.meet_part-returns-in-None-clause-enters
meet_part-returns-in-None-clause-enters t c = enters_nothing c.args.types.now c.args.walk.now c.args.part None c.in-None.is refl

pub meet_part-returns-in-Some-Primitive-clause-enters : goal.meet_part-returns-in-Some-Primitive-clause-enters
meet_part-returns-in-Some-Primitive-clause-enters t c = enters_nothing c.args.types.now c.args.walk.now c.args.part (Some c.in-Some-Primitive.field-0) c.in-Some-Primitive.is (search rules)

pub meet_type-returns-then-contains_key-clause-enters : goal.meet_type-returns-then-contains_key-clause-enters
meet_type-returns-then-contains_key-clause-enters t c = enters_again c.args.types.now c.args.walk.now c.args.id.index c.contains_key.result c.requires.right c.contains_key.ensures c.if-contains_key.true

pub enter_type-returns-clause-right : goal.enter_type-returns-clause-right
enter_type-returns-clause-right t c =
    let mid = c.meet_parts.new.walk in
    let of = c.in_ok-meet_parts.ensures in
    walk_type c.args.types.now c.requires.back c.args.walk.now mid (record mid { owners = c.add_owner.new.owners; entered = c.insert_if_absent.new.self }) c.args.id.index c.requires.present of.right of.enters c.in_ok-insert_if_absent.ensures.ok
    c.index-types-id.result c.in_ok-add_owner.ensures

pub enter_type-returns-clause-enters : goal.enter_type-returns-clause-enters
enter_type-returns-clause-enters t c =
    let mid = c.meet_parts.new.walk in
    let of = c.in_ok-meet_parts.ensures in
    enters_type c.args.types.now c.requires.back c.args.walk.now mid (record mid { owners = c.add_owner.new.owners; entered = c.insert_if_absent.new.self }) c.args.id.index c.requires.present of.right of.enters c.in_ok-insert_if_absent.ensures.ok

pub meet_parts-loop-n-init : goal.meet_parts-loop-n-init
meet_parts-loop-n-init t c = (c.requires.right, enters_none c.args.walk.now)

pub meet_parts-loop-n-preserved : goal.meet_parts-loop-n-preserved
meet_parts-loop-n-preserved t c =
    let types = c.args.types.now in
    let n = c.loop-n.n in
    let ps = parts (kind_at types c.args.id.index) in
    let here : n < length ps = omega (arith, c.loop-n-test.true, c.part_count_of-n-end.ensures) in
    let of = c.in_ok-meet_part.ensures in
    (of.right, met_more types (λ p. p) ps c.args.walk.now c.loop-n.walk c.meet_part.new.walk n None c.part_of.result here c.part_of.ensures.value c.loop-n.invariant.1 of.enters)

pub meet_parts-returns-clause-enters : goal.meet_parts-returns-clause-enters
meet_parts-returns-clause-enters t c =
    let types = c.args.types.now in
    let n = c.loop-n.n in
    let ps = parts (kind_at types c.args.id.index) in
    let past : length ps ≤ n = omega (arith, c.loop-n-test.false, c.part_count_of-n-end.ensures) in
    met_all types (λ p. p) ps c.args.walk.now c.loop-n.walk n past c.loop-n.invariant.1
