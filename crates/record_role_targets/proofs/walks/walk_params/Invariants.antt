use Rattle.record_role_targets.proofs.Walking.{ParamsSoFar}
use Rattle.record_role_targets.proofs.walks.walk_params.Given as goal

abbrev pub invariant-loop-param : goal.invariant-loop-param
invariant-loop-param l = ParamsSoFar l.types l.wanted l.fn.walk l.walk l.param-index l.params
