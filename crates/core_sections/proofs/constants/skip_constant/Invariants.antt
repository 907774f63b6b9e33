use Rattle.std.proofs.Common.{◌≡◌, ◌-◌, length}
use Rattle.core_sections.specs.Constants.{after_fewer}
use Rattle.core_sections.proofs.constants.skip_constant.Given as goal

abbrev pub invariant-loop : goal.invariant-loop
invariant-loop l = after_fewer (length l.bytes - l.counter) l.rest ≡ after_fewer (length l.bytes) l.bytes
