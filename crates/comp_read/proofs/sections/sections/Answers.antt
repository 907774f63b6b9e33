use Rattle.std.proofs.Common.{◌+◌, ◌-◌, length, sym, arith}
use Rattle.std.proofs.lemmas.Bool.{eqb-true, eqb-false}
use Rattle.std.proofs.lemmas.Result.{err_from_is_err_and}
use Rattle.comp_read.proofs.SectionLoop.{section_shorter, continues, ends, fails}
use Rattle.comp_read.proofs.sections.sections.Goals as goal

pub returns-in_err-id : goal.returns-in_err-id
returns-in_err-id g c =
    let p = err_from_is_err_and c.from_residual.result c.from_residual.ensures.1 in
    rw (p.1, p.2) (fails g.D.SectionItem.contents_at c.args.start c.args.bytes.now c.loop-rest.last c.loop-rest.rest.now c.loop-rest.defs c.in_err-id.field-0.0 (omega (arith, eqb-false _ _ (sym c.loop-rest-test.ensures))) c.loop-rest.invariant c.in_err-id.ensures)

pub loop-rest-smaller : goal.loop-rest-smaller
loop-rest-smaller g c =
    section_shorter g.D.SectionItem.contents_at (c.args.start + (length c.args.bytes.now - length c.loop-rest.rest.now)) c.loop-rest.last c.loop-rest.rest.now c.in_ok-id.id c.in_ok-id.found c.in_ok-id.after.now c.in_ok-id.ensures

pub loop-rest-preserved : goal.loop-rest-preserved
loop-rest-preserved g c =
    rw c.in_ok-append.ensures.ok (continues g.D.SectionItem.contents_at c.args.start c.args.bytes.now c.loop-rest.last c.loop-rest.rest.now c.loop-rest.defs c.in_ok-id.id c.in_ok-id.found c.in_ok-id.after.now (omega (arith, eqb-false _ _ (sym c.loop-rest-test.ensures))) c.loop-rest.invariant c.in_ok-id.ensures)

pub returns : goal.returns
returns g c =
    ends g.D.SectionItem.contents_at c.args.start c.args.bytes.now c.loop-rest.last c.loop-rest.rest.now c.loop-rest.defs (eqb-true _ _ (sym c.loop-rest-test.ensures)) c.loop-rest.invariant
