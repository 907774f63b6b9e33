use Rattle.std.proofs.Common.{◌≡◌, [], drop}
use Rattle.record_imports.specs.Grouping.{positions_of, groups_after}
use Rattle.record_imports.specs.Guarantees.{AreGood}
use Rattle.record_imports.proofs.grouping.group_imports.Given as goal

abbrev pub invariant-loop-import : goal.invariant-loop-import
invariant-loop-import l =
    (groups_after l.targets.resolved l.others l.arguments l.targets.table l.core l.grouping.groups.items (drop l.import-index l.import-items) ≡ groups_after l.targets.resolved l.others l.arguments l.targets.table l.core [] l.import-items) ×
    (l.grouping.positions ≡ positions_of 0 l.grouping.groups.items) ×
    AreGood l.targets.resolved.resolve l.grouping.groups.items
