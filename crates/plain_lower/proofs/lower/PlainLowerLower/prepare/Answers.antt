use Rattle.gathered_worlds.specs.Causes.{PrepareCause}
use Rattle.gathered_worlds.proofs.Reporting.{reported_unless_memory}
use Rattle.gathered_worlds.proofs.Gathering.{prepared_modules}
use Rattle.plain_lower.proofs.lower.PlainLowerLower.prepare.Goals as goal

pub returns-clause-refused : goal.returns-clause-refused
returns-clause-refused c = c.in_ok-prepare.ensures.refused

pub returns-in_err-prepare-clause-cause : goal.returns-in_err-prepare-clause-cause
returns-in_err-prepare-clause-cause c =
    reported_unless_memory (λ f. PrepareCause c.args.gathered.now f) c.from_residual.result c.in_err-prepare.field-0.0 c.from_residual.ensures.1 c.in_err-prepare.ensures.cause

pub returns-clause-modules : goal.returns-clause-modules
returns-clause-modules c = prepared_modules c.args.gathered.now _ c.in_ok-prepare.ensures.exact
