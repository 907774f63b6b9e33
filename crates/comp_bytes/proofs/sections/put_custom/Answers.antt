use Rattle.measured_bytes.proofs.Putting.{puts_then}
use Rattle.comp_bytes.proofs.sections.put_custom.Goals as goal

pub returns : goal.returns
returns c = search puts_then
