use Rattle.std.proofs.Common.{sym}
use Rattle.wit_packages.proofs.Placing.{placed}
use Rattle.wit_packages.proofs.interfaces.instance_step.Goals as goal

pub returns : goal.returns
returns c =
    let e = placed c.args.side c.args.state.now c.as_slice.result.now c.args.name.now c.args.index c.in_ok-text.text c.in_ok-key.key c.in_ok-name.name c.in_ok-interface.interface c.in_ok-text.ensures c.in_ok-key.ensures c.in_ok-name.ensures c.as_slice.ensures c.in_ok-interface.ensures in
    rw (sym e) c.place_interface.ensures
