use Rattle.std.proofs.Common.{◌≡◌, ◌++◌}
use Rattle.std.specs.List.{filter_map, slice_get}
use Rattle.world_tables.proofs.places.at_places.Given as goal

abbrev pub invariant-loop-place : goal.invariant-loop-place
invariant-loop-place l =
    goal.iterator-loop-place.can_next l.place-iterator ×
    goal.iterator-loop-place.is_finite l.place-iterator ×
    (l.list.items ++ filter_map (slice_get l.ids) l.place-iterator ≡ filter_map (slice_get l.ids) l.places.keys)
