use Rattle.std.proofs.Common.{◌≡◌, ◌-◌}
use Rattle.core_sections.specs.Reading.{items_at}
use Rattle.core_sections.proofs.Repeated.{with_front}
use Rattle.core_sections.proofs.reading.read_items.Given as goal

abbrev pub invariant-loop : goal.invariant-loop
invariant-loop g l = with_front l.items (items_at g.T.Read.at (l.count - l.counter) l.rest) ≡ items_at g.T.Read.at l.count l.bytes
