use Rattle.std.proofs.Common.{◌↔◌, drop}
use Rattle.std.specs.List.{AllByRecursion}
use Rattle.record_resolve.specs.Resolved.{AreListed}
use Rattle.record_resolve.proofs.resolving.are_listed.Given as goal

abbrev pub invariant-loop-interface : goal.invariant-loop-interface
invariant-loop-interface l = AllByRecursion AreListed l.interfaces ↔ AllByRecursion AreListed (drop l.interface-index l.interfaces)
