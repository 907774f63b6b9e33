use Rattle.measured_bytes.proofs.Putting.{puts_next}
use Rattle.measured_bytes.proofs.emitting.put_each.Goals as goal

pub loop-item-preserved : goal.loop-item-preserved
loop-item-preserved g c = puts_next g.T.Emit.encoding c.args.items.now c.loop-item.item-index c.item-item.result c.loop-item-test.true c.item-item.is c.loop-item.invariant c.emit.ensures
