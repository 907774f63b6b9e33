use Rattle.std.proofs.Common.{◌≡◌}
use Rattle.serde_json.specs.View.{view, items_view}
use Rattle.record_types.specs.Interfaces.{interfaces_from, interfaces_of}
use Rattle.record_types.proofs.interfaces.read_interfaces.Given as goal

abbrev pub invariant-loop-index : goal.invariant-loop-index
invariant-loop-index l = interfaces_from l.index-iterator.count (items_view l.index-iterator.iter.rest.items) l.done ≡ interfaces_of (view l.fn.value)
