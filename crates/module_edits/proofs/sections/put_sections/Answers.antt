use Rattle.std.proofs.Common.{map}
use Rattle.byte_encoding.specs.Encoding.{each}
use Rattle.byte_encoding.proofs.Pieces.{exits}
use Rattle.core_sections.specs.Sections.{view}
use Rattle.module_edits.specs.Additions.{added_view, edited}
use Rattle.module_edits.proofs.Remaining.{section_written, section_refused}
use Rattle.module_edits.proofs.sections.put_sections.Goals as goal

pub loop-section-preserved : goal.loop-section-preserved
loop-section-preserved c = section_written view (edited c.args.exports.now c.args.first (added_view c.args.new)) c.args.sections.now c.loop-section.section-index _ _ _ _ _ c.loop-section-test.true c.loop-section.invariant c.in_ok-put_section.ensures

pub returns-in_err-put_section : goal.returns-in_err-put_section
returns-in_err-put_section c =
    exits _ _ _ _ (each (edited c.args.exports.now c.args.first (added_view c.args.new)) (map view c.args.sections.now)) c.from_residual.ensures.1
    (section_refused view (edited c.args.exports.now c.args.first (added_view c.args.new)) c.args.sections.now c.loop-section.section-index _ _ _ _ _ c.loop-section-test.true c.loop-section.invariant c.in_err-put_section.ensures)
