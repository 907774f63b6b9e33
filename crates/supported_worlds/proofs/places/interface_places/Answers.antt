use Rattle.std.proofs.Common.{rules}
use Rattle.supported_worlds.proofs.InterfacePlaces.{all_apart}
use Rattle.supported_worlds.proofs.places.interface_places.Goals as goal

pub returns-in-Some : goal.returns-in-Some
returns-in-Some c =
    all_apart c.args.imports.now c.in_ok-line.line.items c.in-Some.by_id c.len.result c.len-in-Some.result c.in_ok-line.ensures (search rules) (search rules) (search rules)
