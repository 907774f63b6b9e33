use Rattle.std.proofs.Common.{◌++◌, map, drop}
use Rattle.core_sections.specs.Sections.{preamble, view}
use Rattle.core_sections.specs.Stripping.{kept}
use Rattle.core_sections.proofs.Prefixes.{IsSplit}
use Rattle.package_lower.proofs.sections.split_at_text.Given as goal

abbrev pub invariant-loop-index : goal.invariant-loop-index
invariant-loop-index l = IsSplit l.bytes l.prefix (drop l.index l.sections) (preamble ++ kept (map view l.sections))
