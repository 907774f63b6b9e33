use Rattle.std.proofs.Common.{◌≡◌, ◌==◌, ◌&&◌, ◌||◌, not, ℕ}
use Rattle.std.specs.BTreeSet.{contains}
use Rattle.std.specs.List.{list_any}
use Rattle.std.specs.Ordering.{nat_cmp}
use Rattle.world_tables.specs.Placing.{is_place}
use Rattle.world_tables.proofs.places.places_among.Given as goal

abbrev pub invariant-loop-other : goal.invariant-loop-other
invariant-loop-other l =
    goal.iterator-loop-other.can_next l.other-iterator ×
    goal.iterator-loop-other.is_finite l.other-iterator ×
    ((q : ℕ) → (contains nat_cmp l.found q || list_any (λ e. not (e.0 == l.id.index) && is_place l.places e.0 q) l.other-iterator) ≡ list_any (λ e. not (e.0 == l.id.index) && is_place l.places e.0 q) l.others)
