use Rattle.std.proofs.Common.{Ok}
use Rattle.command_line.specs.Making.{begun}
use Rattle.command_line.proofs.Supplying.{unread, unfitted}
use Rattle.command_line.proofs.making.component_of.Goals as goal

pub returns-in_err-read-clause-composed : goal.returns-in_err-read-clause-composed
returns-in_err-read-clause-composed g c =
    let read = c.in_err-read.ensures.read in (
      read.0,
      read.1,
      unread g.L.Lower (begun g.L.Lower c.args.lower c.args.flags) c.args.main c.args.adapters read.0 c.in_err-read.field-0.0 c.from_residual.result c.from_residual.ensures.1 read.2,
    )

pub returns-in_err-modules-clause-composed : goal.returns-in_err-modules-clause-composed
returns-in_err-modules-clause-composed g c =
    let read = c.in_ok-read.ensures.read in (
      read.0,
      read.1,
      unfitted g.L.Lower (begun g.L.Lower c.args.lower c.args.flags) c.args.main c.args.adapters read.0 c.in_ok-read.read c.in_err-modules.field-0.0 c.from_residual-in_err-modules.result c.from_residual-in_err-modules.ensures.1 read.2
          c.in_err-modules.ensures,
    )

pub returns-in-Ok-clause-composed : goal.returns-in-Ok-clause-composed
returns-in-Ok-clause-composed g c =
    let read = c.in_ok-read.ensures.read in
    (read.0, read.1, record { read = Ok c.in_ok-read.read; are_read = read.2; fitted = Ok c.in_ok-modules.modules; are_fitted = c.in_ok-modules.ensures; encoded = c.in-Ok.ensures })
