use Rattle.std.proofs.Common.{◌≡◌, ◌++◌, drop, map}
use Rattle.world_warnings.proofs.functions.param_names.Given as goal

abbrev pub invariant-loop-param : goal.invariant-loop-param
invariant-loop-param l = l.names ++ map (λ p. p.name) (drop l.param-index l.params) ≡ map (λ p. p.name) l.params
