use Rattle.std.proofs.Common.{◌≡◌, []}
use Rattle.record_resolve.specs.InterfaceKeys.{keys_after}
use Rattle.record_resolve.proofs.interface_keys.first_keys.Given as goal

abbrev pub invariant-loop-key : goal.invariant-loop-key
invariant-loop-key l =
    (goal.iterator-loop-key).can_next l.key-iterator ×
    (goal.iterator-loop-key).is_finite l.key-iterator ×
    (keys_after l.keys l.key-iterator ≡ keys_after [] l.items)
