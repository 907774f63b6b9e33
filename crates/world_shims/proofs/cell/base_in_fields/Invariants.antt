use Rattle.std.proofs.Common.{◌≡◌}
use Rattle.world_shims.specs.Cells.{base_in_fields}
use Rattle.world_shims.proofs.cell.base_in_fields.Given as goal

abbrev pub invariant-loop-role : goal.invariant-loop-role
invariant-loop-role l =
    (goal.iterator-loop-role).can_next l.role-iterator ×
    (goal.iterator-loop-role).is_finite l.role-iterator ×
    (base_in_fields l.known l.role-iterator ≡ base_in_fields l.known l.fields)
