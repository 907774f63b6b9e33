use Rattle.std.proofs.Common.{◌≡◌, ◌++◌}
use Rattle.nested_components.proofs.tables.copy_ids.Given as goal

abbrev pub invariant-loop-id : goal.invariant-loop-id
invariant-loop-id l = goal.iterator-loop-id.can_next l.id-iterator × goal.iterator-loop-id.is_finite l.id-iterator × (l.copy ++ l.id-iterator ≡ l.table)
