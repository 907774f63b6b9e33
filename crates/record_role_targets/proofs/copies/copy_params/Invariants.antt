use Rattle.std.proofs.Common.{◌≡◌, ◌++◌, drop}
use Rattle.record_role_targets.proofs.copies.copy_params.Given as goal

abbrev pub invariant-loop-param : goal.invariant-loop-param
invariant-loop-param l = l.copied ++ drop l.param-index l.params ≡ l.params
