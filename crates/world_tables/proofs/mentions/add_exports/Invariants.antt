use Rattle.std.proofs.Common.{◌≡◌, ◌++◌}
use Rattle.std.specs.List.{flat_map, AllByRecursion}
use Rattle.wit_data.specs.Sound.{HasEntry}
use Rattle.world_values.specs.Mentions.{export_types}
use Rattle.world_tables.proofs.mentions.add_exports.Given as goal

abbrev pub invariant-loop-item : goal.invariant-loop-item
invariant-loop-item l =
    goal.iterator-loop-item.can_next l.item-iterator ×
    goal.iterator-loop-item.is_finite l.item-iterator ×
    AllByRecursion (HasEntry l.resolve) l.item-iterator ×
    (l.list.items ++ flat_map (λ e. export_types l.resolve e.1) l.item-iterator ≡ l.fn.list.items ++ flat_map (λ e. export_types l.resolve e.1) l.entries)
