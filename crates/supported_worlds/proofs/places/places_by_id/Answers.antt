use Rattle.std.proofs.Common.{rules}
use Rattle.supported_worlds.proofs.InterfacePlaces.{places_step}
use Rattle.supported_worlds.proofs.places.places_by_id.Goals as goal

pub loop-n-preserved : goal.loop-n-preserved
loop-n-preserved c =
    places_step c.args.line.now c.loop-n.n _ c.loop-n.places c.put_place.new.places c.in_ok-put_place.field-0 c.loop-n.invariant c.loop-n-test.true c.in_ok-put_place.ensures.fresh c.in_ok-put_place.ensures.put (search rules)
