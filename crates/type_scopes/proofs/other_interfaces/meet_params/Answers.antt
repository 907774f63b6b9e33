use Rattle.std.proofs.Common.{◌<◌, arith, length, Some}
use Rattle.type_scopes.specs.Foreign.{met_in}
use Rattle.type_scopes.proofs.Meeting.{items_step}
use Rattle.type_scopes.proofs.other_interfaces.meet_params.Goals as goal

pub loop-n-preserved : goal.loop-n-preserved
loop-n-preserved c =
    let within : c.loop-n.n < length c.args.params.now = omega (arith, c.loop-n-test.true) in
    let e = c.in_ok-meet_part.ensures in
    (items_step (λ p. met_in c.args.types.now c.args.here (Some p.ty)) c.args.met.now.types c.loop-n.met.types c.meet_part.new.met.types c.loop-n.n c.args.params.now _ within e.met c.loop-n.invariant.0, e.entered)
