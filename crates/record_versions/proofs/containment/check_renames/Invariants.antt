use Rattle.std.proofs.Common.{◌≡◌}
use Rattle.record_versions.specs.Containment.{renames_are_valid}
use Rattle.record_versions.proofs.containment.check_renames.Given as goal

abbrev pub invariant-loop-lesser : goal.invariant-loop-lesser
invariant-loop-lesser l =
    (goal.iterator-loop-lesser).can_next l.lesser-iterator ×
    (goal.iterator-loop-lesser).is_finite l.lesser-iterator ×
    (renames_are_valid l.renames l.interfaces l.lesser-iterator ≡ renames_are_valid l.renames l.interfaces l.renames)
