use Rattle.std.proofs.Common.{◌≡◌, ◌-◌, map}
use Rattle.core_sections.specs.Reading.{items_at}
use Rattle.core_sections.proofs.Repeated.{with_front}
use Rattle.core_parts.specs.Imports.{parts_view, parts_at}
use Rattle.core_parts.proofs.imports.read_all.Given as goal

abbrev pub invariant-loop : goal.invariant-loop
invariant-loop l = with_front (map parts_view l.imports.items) (items_at parts_at (l.count - l.counter) l.rest) ≡ items_at parts_at l.count l.bytes
