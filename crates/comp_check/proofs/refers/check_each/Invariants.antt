use Rattle.std.proofs.Common.{◌≡◌, drop}
use Rattle.std.specs.List.{flat_map}
use Rattle.comp_check.specs.Lacking.{lacking}
use Rattle.comp_check.proofs.refers.check_each.Given as goal

abbrev pub invariant-loop-item : goal.invariant-loop-item
invariant-loop-item g l = lacking l.scopes (flat_map g.T.Refers.references (drop l.item-index l.items)) ≡ lacking l.scopes (flat_map g.T.Refers.references l.items)
