use Rattle.std.proofs.Common.{length, ◌≤◌}
use Rattle.wit_data.specs.Marks.{PassesOn}
use Rattle.wit_data.proofs.liveness.pass_all_on.Given as goal

abbrev pub invariant-loop-n : goal.invariant-loop-n
invariant-loop-n l = PassesOn l.types l.initial.marks (length l.types) l.marks l.n × (l.n ≤ length l.types)

abbrev pub decreases-loop-n : goal.decreases-loop-n
decreases-loop-n l = l.n
