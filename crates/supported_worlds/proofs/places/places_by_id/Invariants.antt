use Rattle.std.proofs.Common.{drop}
use Rattle.supported_worlds.proofs.InterfacePlaces.{PlacesSoFar}
use Rattle.supported_worlds.proofs.places.places_by_id.Given as goal

abbrev pub invariant-loop-n : goal.invariant-loop-n
invariant-loop-n l = PlacesSoFar l.line (drop l.n l.line) l.n l.places
