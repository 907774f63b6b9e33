use Rattle.std.proofs.Common.{◌≡◌, ◌++◌, drop}
use Rattle.record_resolve.proofs.kinds.make_tuple.Given as goal

abbrev pub invariant-loop-part : goal.invariant-loop-part
invariant-loop-part l = l.types ++ drop l.part-index l.parts ≡ l.parts
