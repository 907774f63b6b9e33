use Rattle.record_role_targets.proofs.Knowing.{TablesSoFar}
use Rattle.record_role_targets.proofs.known.tables_of.Given as goal

abbrev pub invariant-loop-name : goal.invariant-loop-name
invariant-loop-name l =
    (goal.iterator-loop-name).can_next l.name-iterator ×
    (goal.iterator-loop-name).is_finite l.name-iterator ×
    TablesSoFar l.resolved l.tables l.name-iterator l.functions
