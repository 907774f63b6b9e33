use Rattle.std.proofs.Common.{◌≡◌}
use Rattle.record_import_roles.specs.Payloads.{with_items}
use Rattle.record_import_roles.proofs.payloads.add_items.Given as goal

abbrev pub invariant-loop-key : goal.invariant-loop-key
invariant-loop-key l =
    (goal.iterator-loop-key).can_next l.key-iterator ×
    (goal.iterator-loop-key).is_finite l.key-iterator ×
    (with_items l.met l.key-iterator ≡ with_items l.fn.met l.items)
