use Rattle.std.proofs.Common.{rules}
use Rattle.supported_worlds.proofs.Keys.{required_once}
use Rattle.supported_worlds.proofs.encoding.parts_left_out.Goals as goal

pub in_places_left_out-requires-clause-once : goal.in_places_left_out-requires-clause-once
in_places_left_out-requires-clause-once c = required_once c.args.parts.now c.args.world.now _ c.in_ok-what.ensures (search rules)
