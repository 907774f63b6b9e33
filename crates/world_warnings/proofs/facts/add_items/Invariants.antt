use Rattle.std.proofs.Common.{◌≡◌}
use Rattle.world_warnings.specs.Facts.{of_items}
use Rattle.world_warnings.proofs.facts.add_items.Given as goal

abbrev pub invariant-loop-key : goal.invariant-loop-key
invariant-loop-key l =
    (goal.iterator-loop-key).can_next l.key-iterator ×
    (goal.iterator-loop-key).is_finite l.key-iterator ×
    (of_items l.table l.key-iterator ≡ of_items l.fn.table l.items)
