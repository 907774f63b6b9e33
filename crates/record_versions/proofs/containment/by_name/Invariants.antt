use Rattle.std.proofs.Common.{◌≡◌, [], drop}
use Rattle.record_versions.specs.Containment.{by_name_after}
use Rattle.record_versions.proofs.containment.by_name.Given as goal

abbrev pub invariant-loop-item : goal.invariant-loop-item
invariant-loop-item g l = by_name_after g.T.HasName.name l.table (drop l.item-index l.items) ≡ by_name_after g.T.HasName.name [] l.items
