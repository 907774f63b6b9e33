use Rattle.std.proofs.Common.{◌++◌}
use Rattle.command_line.proofs.FilesRead.{two_happened, main_not_read}
use Rattle.command_line.proofs.reading.read_files.Goals as goal

pub returns-in_err-bytes-clause-read : goal.returns-in_err-bytes-clause-read
returns-in_err-bytes-clause-read g c =
    let main = c.in_err-bytes.ensures.read in (
      main.0,
      main.1,
      main_not_read c.args.adapters c.args.main main.0 c.in_err-bytes.field-0.0 c.from_residual.result c.from_residual.ensures.1 (main.2 c.args.adapters),
    )

pub returns-clause-read : goal.returns-clause-read
returns-clause-read g c =
    let main = c.in_ok-bytes.ensures.read in
    let rest = c.read_adapters.ensures.read in (
      main.0 ++ rest.0,
      two_happened _ _ _ main.0 rest.0 main.1 rest.1,
      main.2 c.args.adapters rest.0 c.read_adapters.result rest.2,
    )
