use Rattle.measured_bytes.proofs.Putting.{puts_then}
use Rattle.comp_bytes.proofs.writing.put_task_return.Goals as goal

pub returns : goal.returns
returns c = search puts_then
