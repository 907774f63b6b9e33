use Rattle.std.proofs.Common.{Ok}
use Rattle.command_line.proofs.Warning.{none_linted}
use Rattle.command_line.proofs.linting.lint.Goals as goal

pub returns-in_err-read-clause-linted : goal.returns-in_err-read-clause-linted
returns-in_err-read-clause-linted g c =
    let read = c.in_err-read.ensures.read in
    (read.0, read.1, none_linted c.args.main c.args.adapters read.0 (g.W.Write.contents c.args.out.now) c.in_err-read.field-0.0 c.from_residual.result c.from_residual.ensures.1 read.2)

pub returns-clause-linted : goal.returns-clause-linted
returns-clause-linted g c =
    let read = c.in_ok-read.ensures.read in
    (read.0, read.1, record { read = Ok c.in_ok-read.read; are_read = read.2; lints = c.lint_read.ensures })
