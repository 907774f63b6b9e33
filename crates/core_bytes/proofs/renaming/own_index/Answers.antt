use Rattle.std.proofs.Common.{sym, arith, eq-eqb}
use Rattle.core_bytes.specs.Renaming.{part_view, is_own}
use Rattle.core_bytes.proofs.Positions.{or_found, or_other}
use Rattle.core_bytes.proofs.renaming.own_index.Goals as goal

pub returns-then-parts-index-eq0-clause-value : goal.returns-then-parts-index-eq0-clause-value
returns-then-parts-index-eq0-clause-value c =
    sym (or_found part_view is_own c.args.parts.now c.loop-index.index _ 0 c.loop-index-test.true (eq-eqb _ 0 c.if-parts-index-eq0.true) c.loop-index.invariant)

pub returns-clause-value : goal.returns-clause-value
returns-clause-value c =
    sym (or_other part_view is_own c.args.parts.now 0 (λ k d q. c.loop-index.invariant k d (omega (arith, q, c.loop-index-test.false))))
