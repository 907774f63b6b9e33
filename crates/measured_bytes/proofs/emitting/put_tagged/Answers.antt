use Rattle.measured_bytes.proofs.Putting.{puts_then}
use Rattle.measured_bytes.proofs.emitting.put_tagged.Goals as goal

pub returns : goal.returns
returns g c = search puts_then
