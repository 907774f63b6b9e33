use Rattle.std.proofs.Common.{◌≡◌}
use Rattle.wit_data.specs.Flat.{join_lists}
use Rattle.wit_data.proofs.Joining.{joined_from}
use Rattle.wit_data.proofs.flattening.join_into.Given as goal

abbrev pub invariant-loop-index : goal.invariant-loop-index
invariant-loop-index l = joined_from l.index l.values.items l.others ≡ join_lists l.fn.values.items l.others
