use Rattle.std.proofs.Common.{◌≡◌, drop}
use Rattle.package_copies.specs.Weights.{fields_weight}
use Rattle.package_copies.proofs.weights.fields_weight.Given as goal

abbrev pub invariant-loop-field : goal.invariant-loop-field
invariant-loop-field l = fields_weight l.scope (drop l.field-index l.fields) l.weight ≡ fields_weight l.scope l.fields 1
