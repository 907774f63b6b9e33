use Rattle.std.proofs.Common.{◌≡◌, ℕ, List, ◌++◌, ◌<◌, ◌^◌, ◌*◌}
use Rattle.byte_encoding.specs.Encoding.{raw, groups_of_seven, leb128}
use Rattle.measured_bytes.specs.Outputs.{Puts}
use Rattle.measured_bytes.proofs.emitting.put_groups.Given as goal

abbrev pub invariant-loop-rest : goal.invariant-loop-rest
invariant-loop-rest l = (done : List ℕ) × Puts l.fn.out l.out (raw done) × (more : ℕ) × (l.rest < l.end * 128 ^ more) × (done ++ groups_of_seven l.end more l.rest ≡ leb128 l.fn.end l.fn.number)

abbrev pub decreases-loop-rest : goal.decreases-loop-rest
decreases-loop-rest l = l.rest
