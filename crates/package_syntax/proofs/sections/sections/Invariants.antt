use Rattle.std.proofs.Common.{length}
use Rattle.package_syntax.proofs.SectionLoop.{Going}
use Rattle.package_syntax.proofs.sections.sections.Given as goal

abbrev pub invariant-loop-rest : goal.invariant-loop-rest
invariant-loop-rest l = Going l.start l.bytes l.rest l.found

abbrev pub decreases-loop-rest : goal.decreases-loop-rest
decreases-loop-rest l = length l.rest
