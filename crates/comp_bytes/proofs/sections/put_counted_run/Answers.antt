use Rattle.measured_bytes.proofs.Putting.{puts_then}
use Rattle.comp_bytes.proofs.sections.put_counted_run.Goals as goal

pub returns : goal.returns
returns g c = search puts_then
