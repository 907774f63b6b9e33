use Rattle.std.proofs.Common.{◌≡◌, []}
use Rattle.record_versions.specs.Renamed.{items_left}
use Rattle.record_versions.proofs.renamed.items_left.Given as goal

abbrev pub invariant-loop-key : goal.invariant-loop-key
invariant-loop-key l =
    (goal.iterator-loop-key).can_next l.key-iterator ×
    (goal.iterator-loop-key).is_finite l.key-iterator ×
    (items_left l.renames l.table l.key-iterator ≡ items_left l.renames [] l.items)
