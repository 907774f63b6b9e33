use Rattle.std.proofs.Common.{◌∙◌, sym}
use Rattle.measured_bytes.proofs.Putting.{fits_measured, size_measured, excess_measured}
use Rattle.measured_bytes.proofs.sizes.measured.Goals as goal

pub returns-in-None : goal.returns-in-None
returns-in-None g c =
    (fits_measured _ _ _ 0 c.new-out.ensures c.emit.ensures (sym c.excess.ensures ∙ c.in-None.is), size_measured _ _ _ 0 _ c.size.type_inv c.new-out.ensures c.emit.ensures c.size.ensures)

pub returns : goal.returns
returns g c = excess_measured _ _ _ 0 _ c.new-out.ensures c.emit.ensures (sym c.excess.ensures ∙ c.in-Some.is)
