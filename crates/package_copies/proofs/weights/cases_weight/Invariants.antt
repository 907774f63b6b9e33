use Rattle.std.proofs.Common.{◌≡◌, drop}
use Rattle.package_copies.specs.Weights.{cases_weight}
use Rattle.package_copies.proofs.weights.cases_weight.Given as goal

abbrev pub invariant-loop-case : goal.invariant-loop-case
invariant-loop-case l = cases_weight l.scope (drop l.case-index l.cases) l.weight ≡ cases_weight l.scope l.cases 1
