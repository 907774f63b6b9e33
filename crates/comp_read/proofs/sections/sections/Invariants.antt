use Rattle.std.proofs.Common.{length}
use Rattle.comp_read.proofs.SectionLoop.{Going}
use Rattle.comp_read.proofs.sections.sections.Given as goal

abbrev pub invariant-loop-rest : goal.invariant-loop-rest
invariant-loop-rest g l = Going g.D.SectionItem.contents_at l.start l.bytes l.last l.rest l.defs

abbrev pub decreases-loop-rest : goal.decreases-loop-rest
decreases-loop-rest g l = length l.rest
