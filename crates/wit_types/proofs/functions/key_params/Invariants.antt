use Rattle.std.proofs.Common.{◌≡◌, ◌++◌, drop}
use Rattle.wit_types.specs.Maps.{key_params}
use Rattle.wit_types.proofs.functions.key_params.Given as goal

abbrev pub invariant-loop-param : goal.invariant-loop-param
invariant-loop-param l = l.fields ++ key_params (drop l.param-index l.params) ≡ key_params l.params
