use Rattle.std.proofs.Common.{◌↔◌, drop}
use Rattle.std.specs.List.{AllByRecursion}
use Rattle.wit_data.specs.Sound.{HasAll}
use Rattle.wit_data.proofs.resolve.Resolve.has_interfaces.Given as goal

abbrev pub invariant-loop-id : goal.invariant-loop-id
invariant-loop-id l = AllByRecursion (HasAll l.self) l.interfaces ↔ AllByRecursion (HasAll l.self) (drop l.id l.interfaces)
