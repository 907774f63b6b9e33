use Rattle.std.proofs.Common.{◌≡◌, map, drop}
use Rattle.adapter_fitting.specs.Places.{placed_view, misplaced}
use Rattle.adapter_fitting.proofs.places.misplaced.Given as goal

abbrev pub invariant-loop-section : goal.invariant-loop-section
invariant-loop-section l = misplaced l.last (map placed_view (drop l.section-index l.sections)) ≡ misplaced 0 (map placed_view l.sections)
