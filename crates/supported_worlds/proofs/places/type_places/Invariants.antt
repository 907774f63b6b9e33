use Rattle.supported_worlds.proofs.TypePlaces.{TypesSoFar}
use Rattle.supported_worlds.proofs.places.type_places.Given as goal

abbrev pub invariant-loop-n : goal.invariant-loop-n
invariant-loop-n l = TypesSoFar l.types l.interfaces l.n l.places.items
