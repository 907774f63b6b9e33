use Rattle.supported_worlds.proofs.Testing.{TypesPlaced}
use Rattle.supported_worlds.proofs.placed.are_types_placed.Given as goal

abbrev pub invariant-loop-id : goal.invariant-loop-id
invariant-loop-id l = TypesPlaced l.resolve l.places l.id
