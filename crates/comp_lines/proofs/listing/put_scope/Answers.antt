use Rattle.byte_encoding.proofs.Pieces.{refused_each}
use Rattle.comp_lines.proofs.Refusals.{exits}
use Rattle.comp_lines.proofs.listing.put_scope.Goals as goal

pub returns-in_err-put_lines-clause-refused : goal.returns-in_err-put_lines-clause-refused
returns-in_err-put_lines-clause-refused g c =
    exits _ _ _ c.from_residual.ensures.1
    (refused_each g.T.Listed.counts c.args.items.now c.loop-item.item-index c.item-item.result _ c.loop-item-test.true (rw (← c.item-item.is) c.in_err-put_lines.ensures.refused))
