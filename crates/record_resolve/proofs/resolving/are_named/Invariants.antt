use Rattle.std.proofs.Common.{◌↔◌, drop}
use Rattle.std.specs.List.{AllByRecursion}
use Rattle.record_resolve.specs.Resolved.{AreNamed}
use Rattle.record_resolve.proofs.resolving.are_named.Given as goal

abbrev pub invariant-loop-world : goal.invariant-loop-world
invariant-loop-world l = AllByRecursion AreNamed l.worlds ↔ AllByRecursion AreNamed (drop l.world-index l.worlds)
