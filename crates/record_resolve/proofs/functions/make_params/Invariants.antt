use Rattle.std.proofs.Common.{◌≡◌, [], drop}
use Rattle.record_resolve.specs.Functions.{params_from}
use Rattle.record_resolve.proofs.functions.make_params.Given as goal

abbrev pub invariant-loop-param : goal.invariant-loop-param
invariant-loop-param l = params_from l.side (drop l.param-index l.params) (l.made, l.making) ≡ params_from l.side l.params ([], l.fn.making)
