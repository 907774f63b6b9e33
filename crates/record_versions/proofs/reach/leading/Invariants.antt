use Rattle.std.proofs.Common.{◌≡◌, []}
use Rattle.record_versions.specs.Reach.{leading_after}
use Rattle.record_versions.proofs.reach.leading.Given as goal

abbrev pub invariant-loop-key : goal.invariant-loop-key
invariant-loop-key l =
    (goal.iterator-loop-key).can_next l._key-iterator ×
    (goal.iterator-loop-key).is_finite l._key-iterator ×
    (leading_after l.interfaces l.exported l.leading l._key-iterator ≡ leading_after l.interfaces l.exported [] l.imports)
