use Rattle.std.proofs.Common.{map}
use Rattle.wit_data.specs.Parts.{parts}
use Rattle.wit_data.specs.Values.{kind_at}
use Rattle.supported_worlds.specs.Placed.{place_at}
use Rattle.supported_worlds.proofs.TypePlaces.{LastSoFar}
use Rattle.supported_worlds.proofs.places.last_place.Given as goal

abbrev pub invariant-loop-n : goal.invariant-loop-n
invariant-loop-n l = LastSoFar l.last l.n (map (place_at l.places) (parts (kind_at l.types l.id)))
