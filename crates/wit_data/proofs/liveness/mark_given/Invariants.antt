use Rattle.std.proofs.Common.{length, map, Some}
use Rattle.wit_data.specs.Values.{value}
use Rattle.wit_data.specs.Live.{reaching}
use Rattle.wit_data.proofs.Marking.{SpreadsSoFar}
use Rattle.wit_data.proofs.liveness.mark_given.Given as goal

abbrev pub invariant-loop-n : goal.invariant-loop-n
invariant-loop-n l = SpreadsSoFar l.types l.initial.marks l.marks (length l.types) l.n (λ target. map (λ t. value (reaching target) l.types (Some t)) l.given)
