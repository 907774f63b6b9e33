use Rattle.std.proofs.Common.{◌+◌, ◌-◌, length, sym, arith}
use Rattle.std.proofs.lemmas.Bool.{eqb-true, eqb-false}
use Rattle.std.proofs.lemmas.Result.{err_from_is_err_and}
use Rattle.package_syntax.proofs.SectionLoop.{section_shorter, continues, ends, fails}
use Rattle.package_syntax.proofs.sections.sections.Goals as goal

pub returns-in_err-section : goal.returns-in_err-section
returns-in_err-section c =
    let p = err_from_is_err_and c.from_residual.result c.from_residual.ensures.1 in
    rw (p.1, p.2) (fails c.args.start c.args.bytes.now c.loop-rest.rest.now c.loop-rest.found c.in_err-section.field-0.0 (omega (arith, eqb-false _ _ (sym c.loop-rest-test.ensures))) c.loop-rest.invariant c.in_err-section.ensures)

pub loop-rest-smaller : goal.loop-rest-smaller
loop-rest-smaller c =
    section_shorter (c.args.start + (length c.args.bytes.now - length c.loop-rest.rest.now)) c.loop-rest.rest.now c.in_ok-section.section c.in_ok-section.after.now c.in_ok-section.ensures

pub loop-rest-preserved : goal.loop-rest-preserved
loop-rest-preserved c =
    rw c.in_ok-push.ensures.ok (continues c.args.start c.args.bytes.now c.loop-rest.rest.now c.loop-rest.found c.in_ok-section.section c.in_ok-section.after.now (omega (arith, eqb-false _ _ (sym c.loop-rest-test.ensures))) c.loop-rest.invariant c.in_ok-section.ensures)

pub returns : goal.returns
returns c = ends c.args.start c.args.bytes.now c.loop-rest.rest.now c.loop-rest.found (eqb-true _ _ (sym c.loop-rest-test.ensures)) c.loop-rest.invariant
