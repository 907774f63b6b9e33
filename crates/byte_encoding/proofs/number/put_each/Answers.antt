use Rattle.byte_encoding.specs.Encoding.{each}
use Rattle.byte_encoding.proofs.Pieces.{exits, refused_each}
use Rattle.byte_encoding.proofs.number.put_each.Goals as goal

pub returns-in_err-put : goal.returns-in_err-put
returns-in_err-put g c =
    exits _ _ _ _ (each g.T.Encode.encoding c.args.items.now) c.from_residual.ensures.1
    (refused_each (λ x. (g.T.Encode.encoding x).counts) c.args.items.now c.loop-item.item-index c.item-item.result _ c.loop-item-test.true (rw (← c.item-item.is) c.in_err-put.ensures))
