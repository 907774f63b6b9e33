use Rattle.core_sections.proofs.Repeated.{continues}
use Rattle.core_sections.proofs.reading.read_items.Goals as goal

pub loop-preserved : goal.loop-preserved
loop-preserved g c = rw c.in_ok-push.ensures.ok (continues _ _ _ _ _ _ _ _ c.loop-test.true c.in_ok-item.ensures c.loop.invariant)
