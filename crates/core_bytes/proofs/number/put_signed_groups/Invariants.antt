use Rattle.std.proofs.Common.{◌++◌}
use Rattle.core_bytes.specs.Signed.{signed_within}
use Rattle.core_bytes.proofs.Signs.{Left}
use Rattle.core_bytes.proofs.number.put_signed_groups.Given as goal

abbrev pub invariant-loop-rest : goal.invariant-loop-rest
invariant-loop-rest l = Left l.out.items l.negative l.rest (l.fn.out.items ++ signed_within l.fn.negative l.fn.number)

abbrev pub decreases-loop-rest : goal.decreases-loop-rest
decreases-loop-rest l = l.rest
