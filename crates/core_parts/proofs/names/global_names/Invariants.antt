use Rattle.std.proofs.Common.{length, map}
use Rattle.core_parts.specs.Names.{name_view}
use Rattle.core_parts.proofs.Repeating.{NamesLeft}
use Rattle.core_parts.proofs.names.global_names.Given as goal

abbrev pub invariant-loop-id : goal.invariant-loop-id
invariant-loop-id l = NamesLeft l.bytes l.rest (map name_view l.names.items)

abbrev pub decreases-loop-id : goal.decreases-loop-id
decreases-loop-id l = length l.rest
