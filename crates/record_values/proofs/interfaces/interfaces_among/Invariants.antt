use Rattle.std.proofs.Common.{◌≡◌, []}
use Rattle.record_values.specs.Interfaces.{interfaces_after}
use Rattle.record_values.proofs.interfaces.interfaces_among.Given as goal

abbrev pub invariant-loop-key : goal.invariant-loop-key
invariant-loop-key l =
    (goal.iterator-loop-key).can_next l._key-iterator ×
    (goal.iterator-loop-key).is_finite l._key-iterator ×
    (interfaces_after l.interfaces l._key-iterator ≡ interfaces_after [] l.items)
