use Rattle.std.proofs.Common.{sym}
use Rattle.core_sections.proofs.Repeated.{continues}
use Rattle.core_parts.proofs.Repeating.{stops}
use Rattle.core_parts.proofs.exports.read_indices.Goals as goal

pub loop-preserved : goal.loop-preserved
loop-preserved c = rw c.in_ok-push.ensures.items (continues _ _ _ _ _ _ _ _ c.loop-test.true (sym c.in-Some.ensures) c.loop.invariant)

pub returns-in_default : goal.returns-in_default
returns-in_default c = stops _ _ _ _ _ _ c.loop-test.true (sym c.in_default.ensures) c.loop.invariant
