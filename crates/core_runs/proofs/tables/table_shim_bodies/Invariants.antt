use Rattle.std.proofs.Common.{◌≡◌, take}
use Rattle.core_runs.specs.Bodies.{table_shims}
use Rattle.core_runs.proofs.tables.table_shim_bodies.Given as goal

abbrev pub invariant-loop-slot_index : goal.invariant-loop-slot_index
invariant-loop-slot_index l = l.code ≡ table_shims 0 (take l.slot_index l.shims)
