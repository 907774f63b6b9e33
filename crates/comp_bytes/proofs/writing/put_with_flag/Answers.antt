use Rattle.measured_bytes.proofs.Putting.{puts_then}
use Rattle.comp_bytes.proofs.writing.put_with_flag.Goals as goal

pub returns : goal.returns
returns c = search puts_then
