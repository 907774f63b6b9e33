use Rattle.std.proofs.Common.{◌≡◌, ◌++◌, map, take}
use Rattle.std.specs.List.{flat_map}
use Rattle.core_runs.specs.Bodies.{start_step, fill_step}
use Rattle.core_runs.proofs.bodies.put_fills.Given as goal

abbrev pub invariant-loop-fill : goal.invariant-loop-fill
invariant-loop-fill l = l.code.items ≡ l.fn.code.items ++ flat_map start_step (map fill_step (take l.fill-index l.fills))
