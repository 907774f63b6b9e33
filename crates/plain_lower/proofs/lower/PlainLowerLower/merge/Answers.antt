use Rattle.gathered_worlds.specs.Causes.{MergeCause}
use Rattle.gathered_worlds.proofs.Reporting.{reported_unless_memory}
use Rattle.plain_lower.proofs.lower.PlainLowerLower.merge.Goals as goal

pub returns-clause-refused : goal.returns-clause-refused
returns-clause-refused c = c.in_ok-merge.ensures.refused

pub returns-in_err-merge-clause-cause : goal.returns-in_err-merge-clause-cause
returns-in_err-merge-clause-cause c =
    reported_unless_memory (λ f. MergeCause c.args.first.now c.args.second.now f) c.from_residual.result c.in_err-merge.field-0.0 c.from_residual.ensures.1 c.in_err-merge.ensures.cause
