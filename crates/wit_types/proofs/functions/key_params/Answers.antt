use Rattle.wit_types.proofs.Calling.{key_params_more}
use Rattle.wit_types.proofs.functions.key_params.Goals as goal

pub loop-param-preserved : goal.loop-param-preserved
loop-param-preserved c =
    key_params_more c.args.params.now c.loop-param.param-index c.param-item.result c.loop-param.fields c.push.new.self c.in_ok-name.name c.loop-param-test.true c.param-item.is c.in_ok-name.ensures c.in_ok-push.ensures.ok
    c.loop-param.invariant
