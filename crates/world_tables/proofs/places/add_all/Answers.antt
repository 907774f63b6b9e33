use Rattle.std.proofs.Common.{arith}
use Rattle.std.proofs.lemmas.Grind.{common_steps}
use Rattle.std.proofs.lemmas.List.Folds.{list_any-append}
use Rattle.world_tables.proofs.places.add_all.Goals as goal

pub loop-place-preserved : goal.loop-place-preserved
loop-place-preserved c = λ q. grind (arith, common_steps, list_any-append, c.loop-place.invariant q, c.in_ok-insert.ensures.updates.0 q)
