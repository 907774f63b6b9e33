use Rattle.std.proofs.Common.{◌<◌, arith, [], length, get_or}
use Rattle.wit_data.specs.Values.{values}
use Rattle.type_scopes.specs.Foreign.{meeting}
use Rattle.type_scopes.proofs.Meeting.{items_step}
use Rattle.type_scopes.proofs.other_interfaces.meet_types.Goals as goal

pub loop-n-preserved : goal.loop-n-preserved
loop-n-preserved c =
    let within : c.loop-n.n < length c.args.ids.now = omega (arith, c.loop-n-test.true) in
    let e = c.in_ok-meet_type.ensures in
    (items_step (λ id. get_or (values (meeting c.args.types.now c.args.here) c.args.types.now) id.index []) c.args.met.now.types c.loop-n.met.types c.meet_type.new.met.types c.loop-n.n c.args.ids.now _ within e.met c.loop-n.invariant.0, e.entered)
