use Rattle.std.proofs.Common.{◌≡◌, ◌++◌}
use Rattle.nested_components.proofs.tables.copy_kinds.Given as goal

abbrev pub invariant-loop-kind : goal.invariant-loop-kind
invariant-loop-kind l = goal.iterator-loop-kind.can_next l.kind-iterator × goal.iterator-loop-kind.is_finite l.kind-iterator × (l.copy ++ l.kind-iterator ≡ l.table)
