use Rattle.core_sections.specs.Sections.{view}
use Rattle.core_bytes.specs.Renaming.{is_names}
use Rattle.core_bytes.proofs.Positions.{NoneBefore}
use Rattle.core_bytes.proofs.renaming.names_index.Given as goal

abbrev pub invariant-loop-index : goal.invariant-loop-index
invariant-loop-index l = NoneBefore view is_names l.sections l.index
