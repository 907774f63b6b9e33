use Rattle.measured_bytes.proofs.Putting.{puts_then}
use Rattle.measured_bytes.proofs.emitting.put_blob.Goals as goal

pub returns : goal.returns
returns c = search puts_then
