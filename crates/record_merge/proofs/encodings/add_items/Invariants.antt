use Rattle.std.proofs.Common.{◌≡◌}
use Rattle.record_merge.specs.Encodings.{with_items}
use Rattle.record_merge.proofs.encodings.add_items.Given as goal

abbrev pub invariant-loop-key : goal.invariant-loop-key
invariant-loop-key l =
    (goal.iterator-loop-key).can_next l.key-iterator ×
    (goal.iterator-loop-key).is_finite l.key-iterator ×
    (with_items l.interfaces l.encoding l.table l.key-iterator ≡ with_items l.interfaces l.encoding l.fn.table l.all)
