use Rattle.std.proofs.Common.{◌≡◌, ◌==◌, ℕ, take}
use Rattle.world_tables.specs.Placing.{passes_at, is_place}
use Rattle.world_tables.proofs.places.places_of.Given as goal

abbrev pub invariant-loop-place : goal.invariant-loop-place
invariant-loop-place l = (n q : ℕ) → is_place l.places n q ≡ passes_at (λ id. n == id.index) (take l.place l.ids) q
