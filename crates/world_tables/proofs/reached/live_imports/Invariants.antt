use Rattle.std.proofs.Common.{◌≡◌, [], get_or, false}
use Rattle.std.specs.List.{flat_map, AllByRecursion}
use Rattle.wit_data.specs.Sound.{HasEntry}
use Rattle.world_values.specs.Tables.{with_all}
use Rattle.world_values.specs.Mentions.{same_interface, live_entry}
use Rattle.world_tables.proofs.reached.live_imports.Given as goal

abbrev pub invariant-loop-item : goal.invariant-loop-item
invariant-loop-item l =
    goal.iterator-loop-item.can_next l.item-iterator ×
    goal.iterator-loop-item.is_finite l.item-iterator ×
    AllByRecursion (HasEntry l.resolve) l.item-iterator ×
    (with_all same_interface l.table (flat_map (λ e. live_entry (λ n. get_or l.marks n false) l.resolve e.1) l.item-iterator) ≡ with_all same_interface [] (flat_map (λ e. live_entry (λ n. get_or l.marks n false) l.resolve e.1) l.entries))
