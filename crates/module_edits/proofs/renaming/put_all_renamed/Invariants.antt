use Rattle.std.proofs.Common.{map, drop}
use Rattle.byte_encoding.specs.Encoding.{each}
use Rattle.core_sections.specs.Sections.{view}
use Rattle.module_edits.specs.Renaming.{renamed_view, renamed}
use Rattle.module_edits.proofs.Remaining.{Remains}
use Rattle.module_edits.proofs.renaming.put_all_renamed.Given as goal

abbrev pub invariant-loop-section : goal.invariant-loop-section
invariant-loop-section l = Remains l.fn.out.items l.out.items
    (each (renamed (renamed_view l.name)) (map view (drop l.section-index l.sections)))
    (each (renamed (renamed_view l.name)) (map view l.sections))
