use Rattle.std.proofs.Common.{rules, ◌∙◌, ℕ, List, ap}
use Rattle.supported_worlds.specs.PlaceTables.{next_place}
use Rattle.supported_worlds.proofs.TypePlaces.{places_step}
use Rattle.supported_worlds.proofs.places.type_places.Goals as goal

pub loop-n-preserved : goal.loop-n-preserved
loop-n-preserved c =
    places_step c.args.types.now c.args.interfaces.now c.loop-n.n c.loop-n.places.items c.push.new.self.items c.next_place-place.result c.loop-n.invariant c.loop-n-test.true
    (c.next_place-place.ensures ∙ ap (λ (places : List ℕ). next_place c.args.types.now c.args.interfaces.now places c.loop-n.n) c.as_slice.ensures.value)
    (search rules)
