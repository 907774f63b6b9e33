use Rattle.std.proofs.Common.{◌≡◌}
use Rattle.serde_json.specs.View.{view, items_view}
use Rattle.record_types.specs.Scopes.{names_in}
use Rattle.record_types.specs.Interfaces.{functions_from, functions_of}
use Rattle.record_types.proofs.interfaces.read_functions.Given as goal

abbrev pub invariant-loop-index : goal.invariant-loop-index
invariant-loop-index l = functions_from (names_in l.scope) l.index-iterator.count (items_view l.index-iterator.iter.rest.items) (l.functions, l.seen) ≡ functions_of (names_in l.scope) (view l.fn.value)
