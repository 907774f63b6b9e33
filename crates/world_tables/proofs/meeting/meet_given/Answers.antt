use Rattle.std.proofs.Common.{◌<◌, ◌≤◌, arith, refl, length, Some}
use Rattle.wit_data.specs.declared.types.Type.{«Type» as Ty}
use Rattle.world_tables.proofs.Walking.{enters_none, met_more, met_all}
use Rattle.world_tables.proofs.meeting.meet_given.Goals as goal

pub loop-given_type-init : goal.loop-given_type-init
loop-given_type-init c = (c.requires.right, enters_none c.args.walk.now)

pub loop-given_type-preserved : goal.loop-given_type-preserved
loop-given_type-preserved c =
    let n = c.loop-given_type.given_type-index in
    let within : n < length c.args.given.now = omega (arith, c.loop-given_type-test.true) in
    let of = c.in_ok-meet_part.ensures in
    (of.right, met_more c.args.types.now (λ (t : Ty). Some t) c.args.given.now c.args.walk.now c.loop-given_type.walk c.meet_part.new.walk n _ _ within refl c.loop-given_type.invariant.1 of.enters)

pub returns-clause-enters : goal.returns-clause-enters
returns-clause-enters c =
    let past : length c.args.given.now ≤ c.loop-given_type.given_type-index = omega (arith, c.loop-given_type-test.false) in
    met_all c.args.types.now (λ (t : Ty). Some t) c.args.given.now c.args.walk.now c.loop-given_type.walk c.loop-given_type.given_type-index past c.loop-given_type.invariant.1
