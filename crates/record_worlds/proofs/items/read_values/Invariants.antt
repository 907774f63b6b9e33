use Rattle.std.proofs.Common.{◌≡◌, []}
use Rattle.serde_json.specs.View.{items_view}
use Rattle.record_worlds.specs.Items.{items_from}
use Rattle.record_worlds.proofs.items.read_values.Given as goal

abbrev pub invariant-loop-index : goal.invariant-loop-index
invariant-loop-index l = items_from l.side l.interfaces l.index-iterator.count l.read (items_view l.index-iterator.iter.rest.items) ≡ items_from l.side l.interfaces 0 (record { items = []; types = l.fn.types }) (items_view l.fn.values.items)
