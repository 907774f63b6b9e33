use Rattle.std.proofs.Common.{◌≡◌, ◌++◌}
use Rattle.std.specs.List.{flat_map}
use Rattle.record_core_types.specs.Offered.{offered_export, offered}
use Rattle.record_core_types.proofs.offering.offered.Given as goal

abbrev pub invariant-loop-name : goal.invariant-loop-name
invariant-loop-name l =
    (goal.iterator-loop-name).can_next l.name-iterator ×
    (goal.iterator-loop-name).is_finite l.name-iterator ×
    (l.table ++ flat_map (offered_export l.core) l.name-iterator ≡ offered l.core)
