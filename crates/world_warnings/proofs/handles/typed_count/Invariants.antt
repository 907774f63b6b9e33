use Rattle.std.proofs.Common.{◌≡◌, ◌+◌, ◌≤◌, drop}
use Rattle.world_warnings.specs.Handles.{typed_count}
use Rattle.world_warnings.proofs.handles.typed_count.Given as goal

abbrev pub invariant-loop-case : goal.invariant-loop-case
invariant-loop-case l = (l.total + typed_count (drop l.case-index l.cases) ≡ typed_count l.cases) × (l.total ≤ l.case-index)
