use Rattle.comp_lines.proofs.Refusals.{exits}
use Rattle.comp_lines.proofs.Shown.{only_memory}
use Rattle.comp_lines.proofs.listing.describe.Goals as goal

pub returns-in_err-put_scope-clause-memory : goal.returns-in_err-put_scope-clause-memory
returns-in_err-put_scope-clause-memory c = only_memory c.args.definitions.now c.from_residual.result (exits c.from_residual.result _ _ c.from_residual.ensures.1 (rw c.as_slice.ensures at c.in_err-put_scope.ensures.refused))
