use Rattle.std.proofs.Common.{refl}
use Rattle.command_line.proofs.Supplying.{module_given, module_refused}
use Rattle.command_line.proofs.making.give_modules.Goals as goal

pub returns-in-Ok : goal.returns-in-Ok
returns-in-Ok g c =
    module_given g.L.Lower c.args.encoder.now c.add_module.new.self c.give_adapters.new.encoder c.args.modules _ c.give_adapters.result
    c.into_vec.ensures c.in-Ok.ensures.ok (c.in-Ok.ensures.refused refl) c.give_adapters.ensures
