use Rattle.std.proofs.Common.{◌≡◌, ◌++◌, take}
use Rattle.std.specs.List.{flat_map}
use Rattle.core_runs.specs.Bodies.{start_step}
use Rattle.core_runs.proofs.bodies.put_steps.Given as goal

abbrev pub invariant-loop-step : goal.invariant-loop-step
invariant-loop-step l = l.code.items ≡ l.fn.code.items ++ flat_map start_step (take l.step-index l.steps)
