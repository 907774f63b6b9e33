use Rattle.std.proofs.Common.{◌≡◌, ◌+◌, ◌≤◌, drop}
use Rattle.record_resolve.specs.Kinds.{typed_count}
use Rattle.record_resolve.proofs.kinds.typed_count.Given as goal

abbrev pub invariant-loop-case : goal.invariant-loop-case
invariant-loop-case l = (l.total + typed_count (drop l.case-index l.cases) ≡ typed_count l.cases) × (l.total ≤ l.case-index)
