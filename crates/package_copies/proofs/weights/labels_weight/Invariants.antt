use Rattle.std.proofs.Common.{◌≡◌, drop}
use Rattle.package_copies.specs.Weights.{labels_weight}
use Rattle.package_copies.proofs.weights.labels_weight.Given as goal

abbrev pub invariant-loop-label : goal.invariant-loop-label
invariant-loop-label l = labels_weight (drop l.label-index l.labels) l.weight ≡ labels_weight l.labels 1
