use Rattle.wit_data.specs.Values.{part_values}
use Rattle.wit_data.specs.Live.{reaching}
use Rattle.wit_data.proofs.Marking.{SpreadsSoFar}
use Rattle.wit_data.proofs.liveness.mark_parts.Given as goal

abbrev pub invariant-loop-n : goal.invariant-loop-n
invariant-loop-n l = SpreadsSoFar l.types l.initial.marks l.marks l.id l.n (λ target. part_values (reaching target) l.types l.id)
