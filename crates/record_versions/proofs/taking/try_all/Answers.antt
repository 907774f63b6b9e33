use Rattle.std.proofs.Common.{arith}
use Rattle.std.proofs.lemmas.Grind.{common_steps}
use Rattle.std.proofs.lemmas.List.Folds.{list_any-append}
use Rattle.record_versions.proofs.taking.try_all.Goals as goal

pub loop-position-preserved : goal.loop-position-preserved
loop-position-preserved c = λ q. grind (arith, common_steps, list_any-append, c.loop-position.invariant q, c.in_ok-insert.ensures.updates.0 q)
