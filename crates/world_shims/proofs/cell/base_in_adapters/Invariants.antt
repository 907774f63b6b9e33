use Rattle.std.proofs.Common.{◌≡◌}
use Rattle.world_shims.specs.Cells.{base_in_adapters}
use Rattle.world_shims.proofs.cell.base_in_adapters.Given as goal

abbrev pub invariant-loop-adapter : goal.invariant-loop-adapter
invariant-loop-adapter l =
    (goal.iterator-loop-adapter).can_next l.adapter-iterator ×
    (goal.iterator-loop-adapter).is_finite l.adapter-iterator ×
    (base_in_adapters l.known l.adapter-iterator ≡ base_in_adapters l.known l.adapters)
