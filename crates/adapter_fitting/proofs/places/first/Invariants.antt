use Rattle.std.proofs.Common.{◌≡◌, map, drop}
use Rattle.adapter_fitting.specs.Places.{placed_view, first}
use Rattle.adapter_fitting.proofs.places.first.Given as goal

abbrev pub invariant-loop-section : goal.invariant-loop-section
invariant-loop-section l = first l.id (map placed_view (drop l.section-index l.sections)) ≡ first l.id (map placed_view l.sections)
