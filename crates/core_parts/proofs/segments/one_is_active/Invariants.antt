use Rattle.std.proofs.Common.{◌≡◌, ◌-◌}
use Rattle.core_parts.specs.Segments.{one_is_active}
use Rattle.core_parts.proofs.segments.one_is_active.Given as goal

abbrev pub invariant-loop : goal.invariant-loop
invariant-loop l = one_is_active (l.count - l.counter) l.rest ≡ one_is_active l.count l.bytes
