use Rattle.std.proofs.Common.{◌≡◌}
use Rattle.serde_json.specs.View.{view, items_view}
use Rattle.record_types.specs.Interfaces.{types_from, types_of}
use Rattle.record_types.proofs.interfaces.read_types.Given as goal

abbrev pub invariant-loop-index : goal.invariant-loop-index
invariant-loop-index l = types_from l.done l.index-iterator.count (items_view l.index-iterator.iter.rest.items) (l.types, l.known) ≡ types_of l.done (view l.fn.value)
