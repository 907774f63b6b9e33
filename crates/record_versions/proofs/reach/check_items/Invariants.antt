use Rattle.std.proofs.Common.{◌≡◌}
use Rattle.record_versions.specs.Reach.{items_lead_not}
use Rattle.record_versions.proofs.reach.check_items.Given as goal

abbrev pub invariant-loop-key : goal.invariant-loop-key
invariant-loop-key l =
    (goal.iterator-loop-key).can_next l._key-iterator ×
    (goal.iterator-loop-key).is_finite l._key-iterator ×
    (items_lead_not l.interfaces l.exported l.leading l._key-iterator ≡ items_lead_not l.interfaces l.exported l.leading l.exports)
