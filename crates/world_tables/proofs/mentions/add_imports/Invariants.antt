use Rattle.std.proofs.Common.{◌≡◌, ◌++◌}
use Rattle.std.specs.List.{flat_map}
use Rattle.world_values.specs.Mentions.{import_types}
use Rattle.world_tables.proofs.mentions.add_imports.Given as goal

abbrev pub invariant-loop-item : goal.invariant-loop-item
invariant-loop-item l =
    goal.iterator-loop-item.can_next l.item-iterator ×
    goal.iterator-loop-item.is_finite l.item-iterator ×
    (l.list.items ++ flat_map (λ e. import_types e.1) l.item-iterator ≡ l.fn.list.items ++ flat_map (λ e. import_types e.1) l.entries)
