use Rattle.std.proofs.Common.{◌≡◌}
use Rattle.record_resolve.specs.OtherNames.{with_other_names}
use Rattle.record_resolve.proofs.other_names.add_other_names.Given as goal

abbrev pub invariant-loop-old : goal.invariant-loop-old
invariant-loop-old l =
    goal.iterator-loop-old.can_next l.old-iterator ×
    goal.iterator-loop-old.is_finite l.old-iterator ×
    (with_other_names l.ids l.old-iterator ≡ with_other_names l.fn.ids l.renames)
