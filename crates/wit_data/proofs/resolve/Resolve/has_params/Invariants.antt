use Rattle.std.proofs.Common.{◌↔◌, drop, Some}
use Rattle.std.specs.List.{AllByRecursion}
use Rattle.wit_data.specs.Sound.{HasType}
use Rattle.wit_data.proofs.resolve.Resolve.has_params.Given as goal

abbrev pub invariant-loop-index : goal.invariant-loop-index
invariant-loop-index l = AllByRecursion (λ p. HasType l.self (Some p.ty)) l.params ↔ AllByRecursion (λ p. HasType l.self (Some p.ty)) (drop l.index l.params)
