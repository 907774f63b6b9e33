use Rattle.std.proofs.Common.{◌≡◌, ◌-◌}
use Rattle.core_sections.specs.Reading.{items_at}
use Rattle.core_sections.proofs.Repeated.{with_front}
use Rattle.core_parts.specs.Functions.{index_at}
use Rattle.core_parts.proofs.exports.read_indices.Given as goal

abbrev pub invariant-loop : goal.invariant-loop
invariant-loop l = with_front l.indices.items (items_at index_at (l.count - l.counter) l.rest) ≡ items_at index_at l.count l.bytes
