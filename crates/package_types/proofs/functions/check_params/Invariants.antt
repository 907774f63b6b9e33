use Rattle.std.proofs.Common.{◌≡◌, drop}
use Rattle.package_types.specs.Functions.{params_checked}
use Rattle.package_types.proofs.functions.check_params.Given as goal

abbrev pub invariant-loop-param : goal.invariant-loop-param
invariant-loop-param l = params_checked l.scope (drop l.param-index l.params) ≡ params_checked l.scope l.params
