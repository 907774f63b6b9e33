use Rattle.std.proofs.Common.{◌≡◌, ◌-◌, map}
use Rattle.core_sections.specs.Numbers.{bytes_at}
use Rattle.core_sections.specs.Reading.{items_at}
use Rattle.core_sections.proofs.Repeated.{with_front}
use Rattle.core_parts.proofs.bodies.read_bodies.Given as goal

abbrev pub invariant-loop : goal.invariant-loop
invariant-loop l = with_front (map (λ b. b.now) l.bodies.items) (items_at bytes_at (l.count - l.counter) l.rest) ≡ items_at bytes_at l.count l.bytes
