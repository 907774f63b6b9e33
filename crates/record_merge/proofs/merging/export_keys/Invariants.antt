use Rattle.std.proofs.Common.{◌≡◌, ◌++◌}
use Rattle.record_merge.specs.Merging.{keys_of_exports}
use Rattle.record_merge.proofs.merging.export_keys.Given as goal

abbrev pub invariant-loop-key : goal.invariant-loop-key
invariant-loop-key l =
    (goal.iterator-loop-key).can_next l.key-iterator ×
    (goal.iterator-loop-key).is_finite l.key-iterator ×
    (l.keys ++ keys_of_exports l.key-iterator ≡ keys_of_exports l.exports)
