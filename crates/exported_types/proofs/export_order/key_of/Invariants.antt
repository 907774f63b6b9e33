use Rattle.exported_types.proofs.ExportNames.{EntriesSoFar}
use Rattle.exported_types.proofs.export_order.key_of.Given as goal

abbrev pub invariant-loop-key : goal.invariant-loop-key
invariant-loop-key l =
    goal.iterator-loop-key.can_next l.key-iterator ×
    goal.iterator-loop-key.is_finite l.key-iterator ×
    EntriesSoFar l.exports l.id l.key-iterator
