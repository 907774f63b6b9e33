use Rattle.record_role_targets.proofs.Wanting.{WantedSoFar}
use Rattle.record_role_targets.proofs.wanted.wanted_functions.Given as goal

abbrev pub invariant-loop-name : goal.invariant-loop-name
invariant-loop-name l =
    (goal.iterator-loop-name).can_next l._name-iterator ×
    (goal.iterator-loop-name).is_finite l._name-iterator ×
    WantedSoFar l.functions l._name-iterator l.roles
