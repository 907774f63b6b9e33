use Rattle.std.proofs.Common.{◌≡◌}
use Rattle.std.specs.List.{AllByRecursion, list_all}
use Rattle.wit_data.specs.Sound.{HasEntry}
use Rattle.supported_worlds.specs.Homes.{is_at_home}
use Rattle.supported_worlds.specs.Placed.{is_export_placed}
use Rattle.supported_worlds.specs.PlaceTables.{place_by}
use Rattle.supported_worlds.proofs.placed.all_exports_placed.Given as goal

abbrev pub invariant-loop-item : goal.invariant-loop-item
invariant-loop-item l =
    goal.iterator-loop-item.can_next l.item-iterator ×
    goal.iterator-loop-item.is_finite l.item-iterator ×
    AllByRecursion (HasEntry l.resolve) l.item-iterator ×
    (list_all (λ e. is_export_placed l.resolve l.places.types (place_by l.places.interfaces) l.places.interfaces.root (is_at_home l.homes) e.1) l.item-iterator ≡ list_all (λ e. is_export_placed l.resolve l.places.types (place_by l.places.interfaces) l.places.interfaces.root (is_at_home l.homes) e.1) l.items)
