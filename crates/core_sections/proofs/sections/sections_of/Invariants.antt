use Rattle.std.proofs.Common.{length, map}
use Rattle.core_sections.specs.Sections.{view}
use Rattle.core_sections.proofs.Loop.{ReadsOn}
use Rattle.core_sections.proofs.sections.sections_of.Given as goal

abbrev pub invariant-loop-rest : goal.invariant-loop-rest
invariant-loop-rest l = ReadsOn l.bytes l.rest (map view l.sections.items)

abbrev pub decreases-loop-rest : goal.decreases-loop-rest
decreases-loop-rest l = length l.rest
