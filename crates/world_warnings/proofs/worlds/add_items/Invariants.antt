use Rattle.std.proofs.Common.{◌≡◌, ◌++◌}
use Rattle.std.specs.List.{flat_map}
use Rattle.world_warnings.specs.Worlds.{item_warnings}
use Rattle.world_warnings.proofs.worlds.add_items.Given as goal

abbrev pub invariant-loop-key : goal.invariant-loop-key
invariant-loop-key l =
    (goal.iterator-loop-key).can_next l.key-iterator ×
    (goal.iterator-loop-key).is_finite l.key-iterator ×
    (l.warnings ++ flat_map (item_warnings l.facts l.path) l.key-iterator ≡ l.fn.warnings ++ flat_map (item_warnings l.facts l.path) l.items)
