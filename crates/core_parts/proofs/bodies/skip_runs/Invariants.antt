use Rattle.std.proofs.Common.{◌≡◌, ◌≤◌, ◌-◌, length}
use Rattle.core_parts.specs.Functions.{after_runs}
use Rattle.core_parts.proofs.bodies.skip_runs.Given as goal

abbrev pub invariant-loop : goal.invariant-loop
invariant-loop l = (after_runs (l.count - l.counter) l.rest ≡ after_runs l.count l.bytes) × (length l.rest ≤ length l.bytes)
