use Rattle.measured_bytes.proofs.Putting.{refused_size}
use Rattle.measured_bytes.proofs.sizes.encoded_size.Goals as goal

pub returns-in_err-size-2 : goal.returns-in_err-size-2
returns-in_err-size-2 g c = refused_size _ _ _ _ c.from_residual-in_err-size-2.ensures.1 (c.in_ok-size.ensures.1) c.in_err-size-2.ensures
