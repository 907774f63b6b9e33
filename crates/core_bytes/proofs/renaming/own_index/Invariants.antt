use Rattle.core_bytes.specs.Renaming.{part_view, is_own}
use Rattle.core_bytes.proofs.Positions.{NoneBefore}
use Rattle.core_bytes.proofs.renaming.own_index.Given as goal

abbrev pub invariant-loop-index : goal.invariant-loop-index
invariant-loop-index l = NoneBefore part_view is_own l.parts l.index
