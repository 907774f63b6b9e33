use Rattle.std.proofs.Common.{◌<◌, length, arith}
use Rattle.record_role_targets.proofs.Walking.{params_step}
use Rattle.record_role_targets.proofs.walks.walk_params.Goals as goal

pub loop-param-preserved : goal.loop-param-preserved
loop-param-preserved c =
    let within : c.loop-param.param-index < length c.args.params.now = omega (arith, c.loop-param-test.true) in
    params_step c.args.types.now c.args.wanted.now c.args.walk.now c.loop-param.walk c.walk_part.new.walk c.loop-param.param-index c.args.params.now _ c.param-item.result within c.param-item.is c.in_ok-walk_part.ensures c.loop-param.invariant
