use Rattle.std.proofs.Common.{refl}
use Rattle.command_line.proofs.Supplying.{adapter_given, adapter_refused}
use Rattle.command_line.proofs.making.give_adapter.Goals as goal

pub returns-in-Ok : goal.returns-in-Ok
returns-in-Ok g c = λ rest.
    adapter_given g.L.Lower rest c.args.encoder.now c.add_adapter.new.self c.args.adapter _ _ c.as_str.ensures c.into_vec.ensures c.in-Ok.ensures.ok (c.in-Ok.ensures.refused refl)

pub returns : goal.returns
returns g c = λ rest.
    adapter_refused g.L.Lower rest c.args.encoder.now c.add_adapter.new.self c.args.adapter _ _ c.in-Err.fault c.as_str.ensures c.into_vec.ensures c.in-Err.ensures.cause
