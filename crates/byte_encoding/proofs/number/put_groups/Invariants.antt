use Rattle.std.proofs.Common.{◌≡◌, ℕ, ◌++◌, ◌<◌, ◌^◌, ◌*◌}
use Rattle.byte_encoding.specs.Encoding.{groups_of_seven, leb128}
use Rattle.byte_encoding.proofs.number.put_groups.Given as goal

abbrev pub invariant-loop-rest : goal.invariant-loop-rest
invariant-loop-rest l = (more : ℕ) × (l.rest < l.end * 128 ^ more) × (l.out.items ++ groups_of_seven l.end more l.rest ≡ l.fn.out.items ++ leb128 l.fn.end l.fn.number)

abbrev pub decreases-loop-rest : goal.decreases-loop-rest
decreases-loop-rest l = l.rest
