use Rattle.std.proofs.Common.{refl}
use Rattle.command_line.specs.Making.{begun}
use Rattle.command_line.proofs.Supplying.{none_encoded, one_encoded, not_encoded}
use Rattle.command_line.proofs.making.encode.Goals as goal

pub returns-in_err-give_modules : goal.returns-in_err-give_modules
returns-in_err-give_modules g c =
    none_encoded g.L.Lower (begun g.L.Lower c.args.lower c.args.flags) c.encoder_of-encoder.result c.give_modules.new.encoder c.args.modules c.in_err-give_modules.field-0.0 c.from_residual.result
    c.encoder_of-encoder.ensures c.from_residual.ensures.1 c.in_err-give_modules.ensures

pub returns-in-Ok : goal.returns-in-Ok
returns-in-Ok g c =
    one_encoded g.L.Lower (begun g.L.Lower c.args.lower c.args.flags) c.encoder_of-encoder.result c.give_modules.new.encoder c.args.modules _ c.from_vec.result
    c.encoder_of-encoder.ensures c.from_vec.ensures c.in_ok-give_modules.ensures (c.in-Ok.ensures.refused refl) c.in-Ok.ensures.ok

pub returns : goal.returns
returns g c =
    not_encoded g.L.Lower (begun g.L.Lower c.args.lower c.args.flags) c.encoder_of-encoder.result c.give_modules.new.encoder c.args.modules c.in-Err.fault
    c.encoder_of-encoder.ensures c.in_ok-give_modules.ensures c.in-Err.ensures.cause
