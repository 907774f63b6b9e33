use Rattle.std.proofs.Common.{sym, ◌∙◌, arith}
use Rattle.core_sections.specs.Sections.{view}
use Rattle.core_bytes.specs.Renaming.{is_names}
use Rattle.core_bytes.proofs.Positions.{position_found, position_none}
use Rattle.core_bytes.proofs.renaming.names_index.Goals as goal

pub returns-then-has_names-clause-value : goal.returns-then-has_names-clause-value
returns-then-has_names-clause-value c =
    sym (position_found view is_names c.args.sections.now c.loop-index.index _ c.loop-index-test.true (sym c.has_names.ensures ∙ c.if-has_names.true) c.loop-index.invariant)

pub returns-clause-value : goal.returns-clause-value
returns-clause-value c =
    sym (position_none view is_names c.args.sections.now (λ k d q. c.loop-index.invariant k d (omega (arith, q, c.loop-index-test.false))))
