use Rattle.std.proofs.Common.{drop}
use Rattle.record_imports.proofs.Finding.{ArgumentsSoFar}
use Rattle.record_imports.proofs.arguments.first_arguments.Given as goal

abbrev pub invariant-loop-argument : goal.invariant-loop-argument
invariant-loop-argument l = ArgumentsSoFar l.first (drop l.argument-index l.list) l.list
