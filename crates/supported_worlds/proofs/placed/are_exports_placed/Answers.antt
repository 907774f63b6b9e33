use Rattle.supported_worlds.proofs.Testing.{exports_stay}
use Rattle.supported_worlds.proofs.placed.are_exports_placed.Goals as goal

pub returns : goal.returns
returns c =
    exports_stay c.args.resolve.now c.args.places.now c.args.world.now c.as_slice.result.now c.in_ok-homes.homes.items c.as_slice-2.result.now c.in_ok-placed.placed
    c.as_slice.ensures c.in_ok-homes.ensures c.as_slice-2.ensures.value c.in_ok-placed.ensures
