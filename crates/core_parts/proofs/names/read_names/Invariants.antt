use Rattle.std.proofs.Common.{◌≡◌, ◌-◌, map}
use Rattle.core_sections.specs.Reading.{items_at}
use Rattle.core_sections.proofs.Repeated.{with_front}
use Rattle.core_parts.specs.Names.{name_view, named_at}
use Rattle.core_parts.proofs.names.read_names.Given as goal

abbrev pub invariant-loop : goal.invariant-loop
invariant-loop l = with_front (map name_view l.names.items) (items_at named_at (l.count - l.counter) l.rest) ≡ items_at named_at l.count l.bytes
