use Rattle.std.proofs.Common.{◌≡◌, ◌++◌}
use Rattle.core_runs.specs.Bodies.{gets}
use Rattle.core_runs.proofs.bodies.put_gets.Given as goal

abbrev pub invariant-loop-position : goal.invariant-loop-position
invariant-loop-position l = l.code.items ≡ l.fn.code.items ++ gets l.position
