use Rattle.std.proofs.Common.{◌≡◌, ◌++◌, map, drop}
use Rattle.core_sections.specs.Sections.{view}
use Rattle.core_sections.specs.Stripping.{removed}
use Rattle.package_lower.proofs.sections.texts_in.Given as goal

abbrev pub invariant-loop-section : goal.invariant-loop-section
invariant-loop-section l = map (λ x. x.now) l.texts.items ++ removed (map view (drop l.section-index l.sections)) ≡ removed (map view l.sections)
