use Rattle.std.proofs.Common.{◌↔◌, drop}
use Rattle.std.specs.List.{AllByRecursion}
use Rattle.wit_data.specs.Parts.{parts, IsBelow}
use Rattle.wit_data.proofs.soundness.are_below.Given as goal

abbrev pub invariant-loop-index : goal.invariant-loop-index
invariant-loop-index l = AllByRecursion (IsBelow l.bound) (parts l.kind) ↔ AllByRecursion (IsBelow l.bound) (drop l.index (parts l.kind))
