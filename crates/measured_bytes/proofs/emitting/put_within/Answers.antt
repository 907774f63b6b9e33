use Rattle.measured_bytes.proofs.Putting.{puts_within}
use Rattle.measured_bytes.proofs.emitting.put_within.Goals as goal

pub returns : goal.returns
returns c = λ n e. puts_within _ _ c.args.count n c.ranges.count.fits e c.put_index.ensures
