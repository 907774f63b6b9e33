use Rattle.measured_bytes.proofs.Putting.{puts_then, size_measured}
use Rattle.measured_bytes.proofs.emitting.put_sized.Goals as goal

pub returns : goal.returns
returns g c = puts_then (c.put_quantity.ensures _ (size_measured _ _ _ 0 _ c.size.type_inv c.new-measured.ensures c.emit.ensures c.size.ensures)) c.put_again.ensures
