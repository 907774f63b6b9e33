use Rattle.std.proofs.Common.{◌≡◌, []}
use Rattle.world_names.specs.WorldNames.{functions_after}
use Rattle.world_names.proofs.tables.functions_of.Given as goal

abbrev pub invariant-loop-name : goal.invariant-loop-name
invariant-loop-name l =
    (goal.iterator-loop-name).can_next l.name-iterator ×
    (goal.iterator-loop-name).is_finite l.name-iterator ×
    (functions_after l.table l.name-iterator ≡ functions_after [] l.interfaces)
