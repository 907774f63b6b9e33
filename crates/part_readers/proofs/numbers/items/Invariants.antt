use Rattle.std.proofs.Common.{◌≡◌, ◌-◌}
use Rattle.part_readers.specs.Reading.{items_at}
use Rattle.part_readers.proofs.Loop.{with_front}
use Rattle.part_readers.proofs.numbers.items.Given as goal

abbrev pub invariant-loop : goal.invariant-loop
invariant-loop g l = with_front l.items (items_at g.T.Decode.at (l.count - l.counter) l.rest) ≡ items_at g.T.Decode.at l.count l.bytes
