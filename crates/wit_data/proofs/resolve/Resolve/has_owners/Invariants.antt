use Rattle.std.proofs.Common.{◌↔◌, drop}
use Rattle.std.specs.List.{AllByRecursion}
use Rattle.wit_data.specs.Sound.{HasOwner}
use Rattle.wit_data.proofs.resolve.Resolve.has_owners.Given as goal

abbrev pub invariant-loop-id : goal.invariant-loop-id
invariant-loop-id l = AllByRecursion (λ t. HasOwner l.self t.owner) l.types ↔ AllByRecursion (λ t. HasOwner l.self t.owner) (drop l.id l.types)
