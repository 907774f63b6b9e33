use Rattle.std.proofs.Common.{◌≡◌, ◌++◌, map, drop}
use Rattle.core_sections.specs.Sections.{view}
use Rattle.core_bytes.specs.Renaming.{wholes}
use Rattle.core_bytes.proofs.renaming.put_wholes.Given as goal

abbrev pub invariant-loop-section : goal.invariant-loop-section
invariant-loop-section l = l.out.items ++ wholes (map view (drop l.section-index l.sections)) ≡ l.fn.out.items ++ wholes (map view l.sections)
