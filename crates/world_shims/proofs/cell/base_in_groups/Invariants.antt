use Rattle.std.proofs.Common.{◌≡◌}
use Rattle.world_shims.specs.Cells.{base_in_groups}
use Rattle.world_shims.proofs.cell.base_in_groups.Given as goal

abbrev pub invariant-loop-instance : goal.invariant-loop-instance
invariant-loop-instance l =
    (goal.iterator-loop-instance).can_next l.instance-iterator ×
    (goal.iterator-loop-instance).is_finite l.instance-iterator ×
    (base_in_groups l.known l.instance-iterator ≡ base_in_groups l.known l.groups)
