use Rattle.std.proofs.Common.{take}
use Rattle.byte_encoding.specs.Encoding.{each}
use Rattle.measured_bytes.specs.Outputs.{Puts}
use Rattle.measured_bytes.proofs.emitting.put_each.Given as goal

abbrev pub invariant-loop-item : goal.invariant-loop-item
invariant-loop-item g l = Puts l.fn.out l.out (each g.T.Emit.encoding (take l.item-index l.items))
