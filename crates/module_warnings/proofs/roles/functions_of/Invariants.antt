use Rattle.std.proofs.Common.{◌≡◌, []}
use Rattle.module_warnings.specs.Roles.{functions_after}
use Rattle.module_warnings.proofs.roles.functions_of.Given as goal

abbrev pub invariant-loop-field : goal.invariant-loop-field
invariant-loop-field l =
    (goal.iterator-loop-field).can_next l._field-iterator ×
    (goal.iterator-loop-field).is_finite l._field-iterator ×
    (functions_after l.table l._field-iterator ≡ functions_after [] l.roles)
