use Rattle.std.proofs.Common.{◌≡◌, map, drop}
use Rattle.adapter_fitting.specs.Places.{placed_view}
use Rattle.adapter_fitting.specs.Segments.{one_has_active}
use Rattle.adapter_fitting.proofs.data.one_has_active.Given as goal

abbrev pub invariant-loop-section : goal.invariant-loop-section
invariant-loop-section l = one_has_active (map placed_view (drop l.section-index l.sections)) ≡ one_has_active (map placed_view l.sections)
