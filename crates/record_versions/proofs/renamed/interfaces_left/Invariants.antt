use Rattle.std.proofs.Common.{◌≡◌, []}
use Rattle.record_versions.specs.Renamed.{interfaces_left}
use Rattle.record_versions.proofs.renamed.interfaces_left.Given as goal

abbrev pub invariant-loop-name : goal.invariant-loop-name
invariant-loop-name l =
    (goal.iterator-loop-name).can_next l.name-iterator ×
    (goal.iterator-loop-name).is_finite l.name-iterator ×
    (interfaces_left l.renames l.table l.name-iterator ≡ interfaces_left l.renames [] l.interfaces)
