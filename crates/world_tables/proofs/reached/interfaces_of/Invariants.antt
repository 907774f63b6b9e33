use Rattle.std.proofs.Common.{◌≡◌, ◌++◌}
use Rattle.world_values.specs.Mentions.{interfaces_of}
use Rattle.world_tables.proofs.reached.interfaces_of.Given as goal

abbrev pub invariant-loop-item : goal.invariant-loop-item
invariant-loop-item l =
    goal.iterator-loop-item.can_next l.item-iterator ×
    goal.iterator-loop-item.is_finite l.item-iterator ×
    (l.list.items ++ interfaces_of l.item-iterator ≡ interfaces_of l.entries)
