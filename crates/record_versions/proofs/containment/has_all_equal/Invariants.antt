use Rattle.std.proofs.Common.{◌≡◌, drop}
use Rattle.record_versions.specs.Containment.{has_all_equal}
use Rattle.record_versions.proofs.containment.has_all_equal.Given as goal

abbrev pub invariant-loop-item : goal.invariant-loop-item
invariant-loop-item g l = has_all_equal g.T.HasName.name g.T.PartialEq.eq l.table (drop l.item-index l.items) ≡ has_all_equal g.T.HasName.name g.T.PartialEq.eq l.table l.items
