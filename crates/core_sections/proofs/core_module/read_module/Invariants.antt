use Rattle.std.proofs.Common.{◌≡◌, ◌+◌, length, map, drop}
use Rattle.core_sections.specs.Sections.{view}
use Rattle.core_sections.specs.Entries.{entries_from, no_entries}
use Rattle.core_sections.proofs.Offsets.{size_of}
use Rattle.core_sections.proofs.core_module.read_module.Given as goal

abbrev pub invariant-loop-section : goal.invariant-loop-section
invariant-loop-section l =
    (entries_from l.offset l.entries (map view (drop l.section-index l.section-items)) ≡ entries_from 8 no_entries (map view l.section-items)) ×
    (l.offset + size_of (map view (drop l.section-index l.section-items)) ≡ length l.bytes)
