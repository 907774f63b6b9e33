use Rattle.std.proofs.Common.{rules}
use Rattle.world_tables.proofs.Placing.{picked}
use Rattle.world_tables.proofs.places.at_places.Goals as goal

pub returns : goal.returns
returns c = picked c.args.ids.now c.loop-place.list.items c.args.places.now c.iter-place-items.ensures.ordered (search rules)
