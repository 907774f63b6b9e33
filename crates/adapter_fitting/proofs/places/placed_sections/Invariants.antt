use Rattle.std.proofs.Common.{◌≡◌, ◌+◌, ◌++◌, length, map, drop}
use Rattle.core_sections.specs.Sections.{view}
use Rattle.core_sections.proofs.Offsets.{size_of}
use Rattle.adapter_fitting.specs.Places.{placed_view, placed}
use Rattle.adapter_fitting.proofs.places.placed_sections.Given as goal

abbrev pub invariant-loop-section : goal.invariant-loop-section
invariant-loop-section l =
    (map placed_view l.all.items ++ placed l.place (map view (drop l.section-index l.sections)) ≡ placed 8 (map view l.sections)) ×
    (l.place + size_of (map view (drop l.section-index l.sections)) ≡ length l.bytes)
