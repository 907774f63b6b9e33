use Rattle.std.proofs.Common.{◌≡◌, true, take}
use Rattle.std.specs.List.{AllByRecursion}
use Rattle.root_imports.specs.Met.{has_types}
use Rattle.exported_types.proofs.export_order.first_missing.Given as goal

abbrev pub invariant-loop-other : goal.invariant-loop-other
invariant-loop-other l = AllByRecursion (λ other. has_types l.met other ≡ true) (take l.other-index l.used)
