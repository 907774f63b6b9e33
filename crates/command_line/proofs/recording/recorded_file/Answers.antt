use Rattle.std.proofs.Common.{refl}
use Rattle.command_line.proofs.FilesRead.{not_read}
use Rattle.command_line.proofs.recording.recorded_file.Goals as goal

pub returns-in-Ok-clause-read : goal.returns-in-Ok-clause-read
returns-in-Ok-clause-read g c = (_, c.in-Ok.ensures.event, (c.as_str.ensures, (refl, c.recorded.ensures)))

pub returns-in-Err-clause-read : goal.returns-in-Err-clause-read
returns-in-Err-clause-read g c =
    (_, c.in-Err.ensures.event, not_read c.args.file _ _ c.in-Err.fault c.read_fault.result c.as_str.ensures c.read_fault.ensures)
