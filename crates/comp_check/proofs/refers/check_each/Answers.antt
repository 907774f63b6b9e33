use Rattle.std.proofs.Common.{◌∙◌, sym}
use Rattle.std.specs.List.{flat_map}
use Rattle.std.proofs.lemmas.List.{at_drop_all}
use Rattle.std.proofs.lemmas.Result.{err_from_is_err_and}
use Rattle.comp_check.specs.Lacking.{lacking}
use Rattle.comp_check.proofs.Lacks.{continues, ends}
use Rattle.comp_check.proofs.refers.check_each.Goals as goal

pub returns-in_err-check : goal.returns-in_err-check
returns-in_err-check g c =
    let p = err_from_is_err_and c.from_residual.result c.from_residual.ensures.1 in
    rw (p.1, p.2) (sym c.loop-item.invariant ∙ ends c.args.scopes.now g.T.Refers.references c.args.items.now c.loop-item.item-index c.item-item.result c.item-item.result c.in_err-check.field-0.0 c.loop-item-test.true c.item-item.is c.in_err-check.ensures)

pub loop-item-preserved : goal.loop-item-preserved
loop-item-preserved g c =
    sym (continues c.args.scopes.now g.T.Refers.references c.args.items.now c.loop-item.item-index c.item-item.result c.item-item.result c.loop-item-test.true c.item-item.is c.in_ok-check.ensures) ∙ c.loop-item.invariant

pub returns : goal.returns
unfolding lacking
returns g c = sym c.loop-item.invariant ∙ at_drop_all (λ w. lacking c.args.scopes.now (flat_map g.T.Refers.references w)) c.args.items.now c.loop-item.item-index c.loop-item-test.false
