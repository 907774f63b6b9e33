use Rattle.wit_data.proofs.Limits.{WithinSoFar}
use Rattle.wit_data.proofs.sizes.are_within.Given as goal

abbrev pub invariant-loop-id : goal.invariant-loop-id
invariant-loop-id l = WithinSoFar l.types l.id
