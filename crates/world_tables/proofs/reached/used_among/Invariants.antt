use Rattle.std.proofs.Common.{◌≡◌, []}
use Rattle.std.specs.List.{flat_map, AllByRecursion}
use Rattle.wit_data.specs.Sound.{HasEntry}
use Rattle.world_values.specs.Tables.{with_all}
use Rattle.world_values.specs.Mentions.{same_interface, used_entry}
use Rattle.world_tables.proofs.reached.used_among.Given as goal

abbrev pub invariant-loop-item : goal.invariant-loop-item
invariant-loop-item l =
    goal.iterator-loop-item.can_next l.item-iterator ×
    goal.iterator-loop-item.is_finite l.item-iterator ×
    AllByRecursion (HasEntry l.resolve) l.item-iterator ×
    (with_all same_interface l.table (flat_map (λ e. used_entry l.resolve l.all e.1) l.item-iterator) ≡ with_all same_interface [] (flat_map (λ e. used_entry l.resolve l.all e.1) l.entries))
