use Rattle.std.proofs.Common.{◌≡◌, drop}
use Rattle.comp_options.specs.Options.{pass_all, param_contents}
use Rattle.comp_options.proofs.required.pass_params.Given as goal

abbrev pub invariant-loop-param_index : goal.invariant-loop-param_index
invariant-loop-param_index l = pass_all l.way (param_contents l.resolve.types (drop l.param_index l.params)) l.set.0 ≡ pass_all l.way (param_contents l.resolve.types l.params) 0
