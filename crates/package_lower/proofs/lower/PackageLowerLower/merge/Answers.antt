use Rattle.gathered_worlds.specs.Causes.{MergeCause}
use Rattle.package_lower.proofs.Reporting.{plainly_reported, plainly_none}
use Rattle.package_lower.proofs.lower.PackageLowerLower.merge.Goals as goal

pub returns-clause-refused : goal.returns-clause-refused
returns-clause-refused c = λ ok f k. plainly_none (λ p. MergeCause c.args.first.now c.args.second.now p) (c.in_ok-merge.ensures.refused ok) f k

pub returns-in_err-merge-clause-cause : goal.returns-in_err-merge-clause-cause
returns-in_err-merge-clause-cause c =
    plainly_reported (λ p. MergeCause c.args.first.now c.args.second.now p) c.from_residual.result c.in_err-merge.field-0.0 c.from_residual.ensures.1 c.in_err-merge.ensures.cause
