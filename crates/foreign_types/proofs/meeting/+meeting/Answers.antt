use Rattle.std.proofs.Common.{◌∙◌, ◌<◌, ◌≤◌, arith, refl, length, Some, None}
use Rattle.wit_data.specs.declared.types.Type.TheVariants.{Id}
use Rattle.wit_data.specs.Parts.{parts}
use Rattle.wit_data.specs.Values.{kind_at}
use Rattle.foreign_types.specs.Walking.{Passes}
use Rattle.foreign_types.proofs.Walking.{lists_none, covered_before, walk_entered, walk_listed, covered_listed, lists_listed, covered_kept, lists_kept, owned_by, met_none, met_more, met_all}
use Rattle.foreign_types.proofs.meeting.+meeting.Goals as goal

pub meet_part-returns-in-None-clause-lists : goal.meet_part-returns-in-None-clause-lists
meet_part-returns-in-None-clause-lists t c = lists_none c.args.types.now c.args.walk.now.listed (Passes c.args.types.now c.args.part)

pub meet_part-returns-in-Some-Primitive-clause-lists : goal.meet_part-returns-in-Some-Primitive-clause-lists
meet_part-returns-in-Some-Primitive-clause-lists t c = lists_none c.args.types.now c.args.walk.now.listed (Passes c.args.types.now c.args.part)

pub meet_type-returns-then-contains_key-clause-covered : goal.meet_type-returns-then-contains_key-clause-covered
meet_type-returns-then-contains_key-clause-covered t c = covered_before c.args.types.now c.args.here c.args.walk.now c.args.id c.contains_key.result c.requires.right c.contains_key.ensures c.if-contains_key.true

pub meet_type-returns-then-contains_key-clause-lists : goal.meet_type-returns-then-contains_key-clause-lists
meet_type-returns-then-contains_key-clause-lists t c = lists_none c.args.types.now c.args.walk.now.listed (Passes c.args.types.now (Some (Id c.args.id)))

pub enter_type-returns-in_ok-push-in-Some-clause-right : goal.enter_type-returns-in_ok-push-in-Some-clause-right
enter_type-returns-in_ok-push-in-Some-clause-right t c =
    let mid = c.meet_parts.new.walk in
    let of = c.in_ok-meet_parts.ensures in
    walk_listed c.args.types.now c.args.here c.requires.back mid (record mid { listed = c.push.new.self; entered = c.insert_if_absent.new.self }) c.args.id c.in-Some.field-0 of.right c.requires.present
    (owned_by c.args.types.now c.args.here c.args.id c.owner_of.result c.foreign.result c.owner_of.ensures c.foreign.ensures ∙ c.in-Some.is) of.covered c.in_ok-push-in-Some.ensures.ok
    c.args.walk.now c.requires.unmet c.requires.right.known of.lists c.in_ok-insert_if_absent.ensures.ok

pub enter_type-returns-in_ok-push-in-Some-clause-covered : goal.enter_type-returns-in_ok-push-in-Some-clause-covered
enter_type-returns-in_ok-push-in-Some-clause-covered t c =
    let mid = c.meet_parts.new.walk in
    let of = c.in_ok-meet_parts.ensures in
    covered_listed c.args.types.now c.args.here c.requires.back mid (record mid { listed = c.push.new.self; entered = c.insert_if_absent.new.self }) c.args.id c.in-Some.field-0 of.right c.requires.present
    (owned_by c.args.types.now c.args.here c.args.id c.owner_of.result c.foreign.result c.owner_of.ensures c.foreign.ensures ∙ c.in-Some.is) of.covered c.in_ok-push-in-Some.ensures.ok

pub enter_type-returns-in_ok-push-in-Some-clause-lists : goal.enter_type-returns-in_ok-push-in-Some-clause-lists
enter_type-returns-in_ok-push-in-Some-clause-lists t c =
    let mid = c.meet_parts.new.walk in
    let of = c.in_ok-meet_parts.ensures in
    lists_listed c.args.types.now c.args.here c.requires.back mid (record mid { listed = c.push.new.self; entered = c.insert_if_absent.new.self }) c.args.id c.in-Some.field-0 of.right c.requires.present
    (owned_by c.args.types.now c.args.here c.args.id c.owner_of.result c.foreign.result c.owner_of.ensures c.foreign.ensures ∙ c.in-Some.is) of.covered c.in_ok-push-in-Some.ensures.ok c.args.walk.now.listed of.lists

pub enter_type-returns-in-None-clause-right : goal.enter_type-returns-in-None-clause-right
enter_type-returns-in-None-clause-right t c =
    let mid = c.meet_parts.new.walk in
    let of = c.in_ok-meet_parts.ensures in
    let covered = covered_kept c.args.types.now c.args.here c.requires.back mid c.args.id c.requires.present (owned_by c.args.types.now c.args.here c.args.id c.owner_of.result c.foreign.result c.owner_of.ensures c.foreign.ensures ∙ c.in-None.is) of.covered in
    walk_entered c.args.types.now c.args.here mid (record mid { entered = c.insert_if_absent.new.self }) c.args.id of.right covered refl c.in_ok-insert_if_absent.ensures.ok

pub enter_type-returns-in-None-clause-covered : goal.enter_type-returns-in-None-clause-covered
enter_type-returns-in-None-clause-covered t c =
    covered_kept c.args.types.now c.args.here c.requires.back c.meet_parts.new.walk c.args.id c.requires.present
    (owned_by c.args.types.now c.args.here c.args.id c.owner_of.result c.foreign.result c.owner_of.ensures c.foreign.ensures ∙ c.in-None.is) c.in_ok-meet_parts.ensures.covered

pub enter_type-returns-in-None-clause-lists : goal.enter_type-returns-in-None-clause-lists
enter_type-returns-in-None-clause-lists t c =
    lists_kept c.args.types.now c.args.here c.requires.back c.args.walk.now.listed c.meet_parts.new.walk.listed c.args.id c.requires.present c.in_ok-meet_parts.ensures.lists

pub meet_parts-loop-n-init : goal.meet_parts-loop-n-init
meet_parts-loop-n-init t c =
    let ps = parts (kind_at c.args.types.now c.args.id.index) in
    (c.requires.right, met_none c.args.types.now c.args.here (λ p. p) ps None c.args.walk.now.listed)

pub meet_parts-loop-n-preserved : goal.meet_parts-loop-n-preserved
meet_parts-loop-n-preserved t c =
    let types = c.args.types.now in
    let n = c.loop-n.n in
    let ps = parts (kind_at types c.args.id.index) in
    let here : n < length ps = omega (arith, c.loop-n-test.true, c.part_count_of-n-end.ensures) in
    let of = c.in_ok-meet_part.ensures in
    (of.right, met_more types c.args.here (λ p. p) ps None c.args.walk.now.listed c.requires.back c.loop-n.walk.listed c.meet_part.new.walk.listed n c.part_of.result here c.part_of.ensures.value c.loop-n.invariant.1 of.covered of.lists)

pub meet_parts-returns-clause-covered : goal.meet_parts-returns-clause-covered
meet_parts-returns-clause-covered t c =
    let types = c.args.types.now in
    let n = c.loop-n.n in
    let ps = parts (kind_at types c.args.id.index) in
    let past : length ps ≤ n = omega (arith, c.loop-n-test.false, c.part_count_of-n-end.ensures) in
    met_all types c.args.here (λ p. p) ps None c.args.walk.now.listed c.loop-n.walk.listed n past c.loop-n.invariant.1
