use Rattle.std.proofs.Common.{arith}
use Rattle.std.proofs.lemmas.Grind.{common_steps}
use Rattle.std.proofs.lemmas.List.Folds.{list_any-append}
use Rattle.module_edits.proofs.code.add_all_exported.Goals as goal

pub loop-export-preserved : goal.loop-export-preserved
loop-export-preserved c = λ q. grind (arith, common_steps, list_any-append, c.loop-export.invariant q, c.in_ok-add_exported.ensures q)
