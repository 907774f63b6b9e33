use Rattle.std.proofs.Common.{map, drop}
use Rattle.byte_encoding.specs.Encoding.{each}
use Rattle.core_sections.specs.Sections.{view}
use Rattle.module_edits.specs.Additions.{added_view, edited}
use Rattle.module_edits.proofs.Remaining.{Remains}
use Rattle.module_edits.proofs.sections.put_sections.Given as goal

abbrev pub invariant-loop-section : goal.invariant-loop-section
invariant-loop-section l = Remains l.fn.out.items l.out.items
    (each (edited l.exports l.first (added_view l.new)) (map view (drop l.section-index l.sections)))
    (each (edited l.exports l.first (added_view l.new)) (map view l.sections))
