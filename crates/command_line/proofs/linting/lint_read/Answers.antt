use Rattle.std.proofs.Common.{refl}
use Rattle.command_line.proofs.Warning.{warnings_shown, none_shown}
use Rattle.command_line.proofs.linting.lint_read.Goals as goal

pub returns-in-Ok : goal.returns-in-Ok
returns-in-Ok g c =
    warnings_shown c.args.modules _ _ (g.W.Write.contents c.args.out.now) (g.W.Write.contents c.print_warnings.new.out) c.print_warnings.result c.as_bytes.ensures.value c.in-Ok.ensures.ok (c.in-Ok.ensures.refused refl)
    c.print_warnings.ensures

pub returns-in-Err : goal.returns-in-Err
returns-in-Err g c = none_shown c.args.modules (g.W.Write.contents c.args.out.now) c.in-Err.fault c.lint_fault.result c.lint_fault.ensures c.in-Err.ensures.cause
