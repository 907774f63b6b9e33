use Rattle.std.proofs.Common.{◌≡◌, ◌++◌, drop, map}
use Rattle.world_warnings.proofs.worlds.function_names.Given as goal

abbrev pub invariant-loop-function : goal.invariant-loop-function
invariant-loop-function l = l.names ++ map (λ f. f.name) (drop l.function-index l.functions) ≡ map (λ f. f.name) l.functions
