use Rattle.command_line.proofs.FilesRead.{not_read, main_read}
use Rattle.command_line.proofs.reading.read_main.Goals as goal

pub returns-in-Ok-clause-read : goal.returns-in-Ok-clause-read
returns-in-Ok-clause-read g c =
    (_, c.in-Ok.ensures.event, λ adapters. main_read {F = g.row.F.Denot} adapters c.args.file _ _ c.from_vec.result c.as_str.ensures c.from_vec.ensures)
