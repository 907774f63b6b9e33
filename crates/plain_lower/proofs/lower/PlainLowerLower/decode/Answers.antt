use Rattle.plain_lower.specs.Causes.{DecodeCause}
use Rattle.gathered_worlds.proofs.Reporting.{reported_unless_memory}
use Rattle.plain_lower.proofs.lower.PlainLowerLower.decode.Goals as goal

pub returns-clause-refused : goal.returns-clause-refused
returns-clause-refused c = c.in_ok-decode.ensures.refused

pub returns-in_err-decode-clause-cause : goal.returns-in_err-decode-clause-cause
returns-in_err-decode-clause-cause c =
    reported_unless_memory (λ f. DecodeCause c.args.bytes.items f) c.from_residual.result c.in_err-decode.field-0.0 c.from_residual.ensures.1 c.in_err-decode.ensures.cause
