use Rattle.wit_data.proofs.Counts.{TotalSoFar}
use Rattle.wit_data.proofs.Passing.{param_counts}
use Rattle.wit_data.proofs.signatures.param_count.Given as goal

abbrev pub invariant-loop-index : goal.invariant-loop-index
invariant-loop-index l = TotalSoFar 17 l.total l.index (param_counts l.types l.params)
