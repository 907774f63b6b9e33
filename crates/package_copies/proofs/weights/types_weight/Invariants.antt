use Rattle.std.proofs.Common.{◌≡◌, drop}
use Rattle.package_copies.specs.Weights.{types_weight}
use Rattle.package_copies.proofs.weights.types_weight.Given as goal

abbrev pub invariant-loop-ty : goal.invariant-loop-ty
invariant-loop-ty l = types_weight l.scope (drop l.ty-index l.types) l.weight ≡ types_weight l.scope l.types 1
