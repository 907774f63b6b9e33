use Rattle.std.proofs.Common.{length, map}
use Rattle.core_bytes.specs.Renaming.{part_view}
use Rattle.core_bytes.proofs.Parts.{PartsLeft}
use Rattle.core_bytes.proofs.part.read_parts.Given as goal

abbrev pub invariant-loop-rest : goal.invariant-loop-rest
invariant-loop-rest l = PartsLeft l.bytes l.rest (map part_view l.parts.items)

abbrev pub decreases-loop-rest : goal.decreases-loop-rest
decreases-loop-rest l = length l.rest
