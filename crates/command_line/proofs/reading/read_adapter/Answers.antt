use Rattle.command_line.proofs.FilesRead.{not_read, adapter_read, adapter_not_added}
use Rattle.command_line.proofs.reading.read_adapter.Goals as goal

pub returns-in-Err-clause-read : goal.returns-in-Err-clause-read
returns-in-Err-clause-read g c =
    (_, c.in-Err.ensures.event, λ main rest. not_read c.args.adapter.file _ _ c.in-Err.fault c.read_fault.result c.as_str.ensures c.read_fault.ensures)

pub returns-in-Ok-push-clause-read : goal.returns-in-Ok-push-clause-read
returns-in-Ok-push-clause-read g c = (
  _,
  c.in-Ok.ensures.event,
  λ main rest. adapter_read {F = g.row.F.Denot} main rest c.args.modules.now c.push.new.self c.args.adapter _ _ c.from_vec.result c.as_str.ensures c.from_vec.ensures c.in-Ok-push.ensures.ok,
)

pub returns-clause-read : goal.returns-clause-read
returns-clause-read g c = (
  _,
  c.in-Ok.ensures.event,
  λ main rest. adapter_not_added {F = g.row.F.Denot} main rest c.args.modules.now c.push.new.self c.args.adapter _ _ c.out_of_memory.result c.as_str.ensures c.out_of_memory.ensures,
)
