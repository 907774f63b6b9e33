use Rattle.gathered_worlds.specs.Causes.{PrepareCause}
use Rattle.gathered_worlds.proofs.Gathering.{prepared_modules}
use Rattle.package_lower.proofs.Reporting.{plainly_reported, plainly_none}
use Rattle.package_lower.proofs.lower.PackageLowerLower.prepare.Goals as goal

pub returns-clause-refused : goal.returns-clause-refused
returns-clause-refused c = λ ok f k. plainly_none (λ p. PrepareCause c.args.gathered.now p) (c.in_ok-prepare.ensures.refused ok) f k

pub returns-in_err-prepare-clause-cause : goal.returns-in_err-prepare-clause-cause
returns-in_err-prepare-clause-cause c =
    plainly_reported (λ p. PrepareCause c.args.gathered.now p) c.from_residual.result c.in_err-prepare.field-0.0 c.from_residual.ensures.1 c.in_err-prepare.ensures.cause

pub returns-clause-modules : goal.returns-clause-modules
returns-clause-modules c = prepared_modules c.args.gathered.now _ c.in_ok-prepare.ensures.exact
