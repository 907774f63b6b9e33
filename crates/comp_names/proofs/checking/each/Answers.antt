use Rattle.std.proofs.Common.{arith}
use Rattle.std.proofs.lemmas.Result.{err_from_is_err_and}
use Rattle.comp_names.proofs.Judging.{each_more, each_fault}
use Rattle.comp_names.proofs.checking.each.Goals as goal

pub returns-in_err-check : goal.returns-in_err-check
returns-in_err-check g c =
    let p = err_from_is_err_and c.from_residual.result c.from_residual.ensures.1 in
    rw (p.1, p.2) (each_fault g.T.Named.lists g.T.Named.externs c.args.entries.now c.loop-entry.entry-index c.entry-item.result c.in_err-check.field-0.0 (omega arith) c.entry-item.is c.in_err-check.ensures)

pub loop-entry-preserved : goal.loop-entry-preserved
loop-entry-preserved g c = each_more g.T.Named.lists g.T.Named.externs c.args.entries.now c.loop-entry.entry-index c.entry-item.result c.loop-entry.invariant (omega arith) c.entry-item.is c.in_ok-check.ensures
