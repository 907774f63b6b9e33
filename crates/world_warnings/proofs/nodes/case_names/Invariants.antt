use Rattle.std.proofs.Common.{◌≡◌, ◌++◌, drop, map}
use Rattle.world_warnings.proofs.nodes.case_names.Given as goal

abbrev pub invariant-loop-case : goal.invariant-loop-case
invariant-loop-case l = l.names ++ map (λ c. c.name) (drop l.case-index l.cases) ≡ map (λ c. c.name) l.cases
