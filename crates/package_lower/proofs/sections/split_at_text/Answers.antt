use Rattle.std.proofs.Common.{◌++◌, map, sym, ◌∙◌}
use Rattle.core_sections.specs.Sections.{preamble, view}
use Rattle.core_sections.specs.Stripping.{kept}
use Rattle.core_sections.proofs.Prefixes.{no_record, passes_at}
use Rattle.package_lower.proofs.sections.split_at_text.Goals as goal

pub loop-index-preserved : goal.loop-index-preserved
loop-index-preserved c =
    let none = no_record c.record.result _ c.record.ensures (sym c.is_some.ensures ∙ c.if-is_some.false) in
    passes_at c.args.bytes.now c.loop-index.prefix c.args.sections.now c.loop-index.index _ (preamble ++ kept (map view c.args.sections.now)) c.loop-index-test.true none c.loop-index.invariant
