use Rattle.std.proofs.Common.{length}
use Rattle.record_versions.specs.Taking.{Keeps}
use Rattle.record_versions.proofs.taking.Trials.first_ready.Given as goal

abbrev pub invariant-loop-first : goal.invariant-loop-first
invariant-loop-first l = Keeps l.all l.taken l.self

abbrev pub decreases-loop-first : goal.decreases-loop-first
decreases-loop-first l = length l.self.to_try.keys
