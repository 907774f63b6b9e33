use Rattle.std.proofs.Common.{map}
use Rattle.byte_encoding.specs.Encoding.{each}
use Rattle.byte_encoding.proofs.Pieces.{exits}
use Rattle.core_sections.specs.Sections.{view}
use Rattle.module_edits.specs.Renaming.{renamed_view, renamed}
use Rattle.module_edits.proofs.Remaining.{section_written, section_refused}
use Rattle.module_edits.proofs.renaming.put_all_renamed.Goals as goal

pub loop-section-preserved : goal.loop-section-preserved
loop-section-preserved c = section_written view (renamed (renamed_view c.args.name)) c.args.sections.now c.loop-section.section-index _ _ _ _ _ c.loop-section-test.true c.loop-section.invariant c.in_ok-put_renamed.ensures

pub returns-in_err-put_renamed : goal.returns-in_err-put_renamed
returns-in_err-put_renamed c =
    exits _ _ _ _ (each (renamed (renamed_view c.args.name)) (map view c.args.sections.now)) c.from_residual.ensures.1
    (section_refused view (renamed (renamed_view c.args.name)) c.args.sections.now c.loop-section.section-index _ _ _ _ _ c.loop-section-test.true c.loop-section.invariant c.in_err-put_renamed.ensures)
