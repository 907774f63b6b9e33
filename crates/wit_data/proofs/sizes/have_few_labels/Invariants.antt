use Rattle.std.proofs.Common.{◌↔◌, drop}
use Rattle.std.specs.List.{AllByRecursion}
use Rattle.wit_data.specs.Sizes.{HasFewLabels}
use Rattle.wit_data.proofs.sizes.have_few_labels.Given as goal

abbrev pub invariant-loop-id : goal.invariant-loop-id
invariant-loop-id l = AllByRecursion (λ t. HasFewLabels t.kind) l.types ↔ AllByRecursion (λ t. HasFewLabels t.kind) (drop l.id l.types)
