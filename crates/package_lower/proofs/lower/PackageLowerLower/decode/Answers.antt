use Rattle.package_lower.specs.Causes.{DecodeCause}
use Rattle.package_lower.proofs.Reporting.{reported}
use Rattle.package_lower.proofs.lower.PackageLowerLower.decode.Goals as goal

pub returns-clause-refused : goal.returns-clause-refused
returns-clause-refused c = λ ok f k. c.in_ok-decode.ensures.refused ok f k

pub returns-in_err-decode-clause-cause : goal.returns-in_err-decode-clause-cause
returns-in_err-decode-clause-cause c =
    reported (λ f. DecodeCause c.args.self.now.reject_legacy_names c.args.bytes.items f) c.from_residual.result c.in_err-decode.field-0.0 c.from_residual.ensures.1 c.in_err-decode.ensures.cause
