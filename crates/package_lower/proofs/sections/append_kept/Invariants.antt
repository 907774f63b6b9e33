use Rattle.std.proofs.Common.{◌≡◌, ◌++◌, map, drop}
use Rattle.core_sections.specs.Sections.{view}
use Rattle.core_sections.specs.Stripping.{kept}
use Rattle.package_lower.proofs.sections.append_kept.Given as goal

abbrev pub invariant-loop-section : goal.invariant-loop-section
invariant-loop-section l = l.out.items ++ kept (map view (drop l.section-index l.sections)) ≡ l.fn.out.items ++ kept (map view l.sections)
