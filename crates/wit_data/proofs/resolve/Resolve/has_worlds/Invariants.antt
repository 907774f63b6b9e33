use Rattle.std.proofs.Common.{◌↔◌, drop}
use Rattle.std.specs.List.{AllByRecursion}
use Rattle.wit_data.specs.Sound.{HasWorld}
use Rattle.wit_data.proofs.resolve.Resolve.has_worlds.Given as goal

abbrev pub invariant-loop-id : goal.invariant-loop-id
invariant-loop-id l = AllByRecursion (HasWorld l.self) l.worlds ↔ AllByRecursion (HasWorld l.self) (drop l.id l.worlds)
