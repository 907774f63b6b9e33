use Rattle.std.proofs.Common.{◌≡◌, ◌-◌}
use Rattle.part_readers.specs.Reading.{items_at}
use Rattle.comp_read.specs.ItemReaders.{item_at}
use Rattle.part_readers.proofs.Loop.{with_front}
use Rattle.comp_read.proofs.items.items.Given as goal

abbrev pub invariant-loop : goal.invariant-loop
invariant-loop l = with_front l.items (items_at (item_at l.id) (l.count - l.counter) l.rest) ≡ items_at (item_at l.id) l.count l.bytes
