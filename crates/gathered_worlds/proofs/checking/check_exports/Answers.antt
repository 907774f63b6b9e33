use Rattle.std.proofs.Common.{List, subst}
use Rattle.world_values.specs.declared.gathered.ExportKey.{ExportKey}
use Rattle.record_exports.specs.Causes.{RequiredCause}
use Rattle.gathered_worlds.specs.Causes.{ExportsCause, unfit, missing}
use Rattle.gathered_worlds.proofs.CheckingCauses.{handed_out}
use Rattle.gathered_worlds.proofs.checking.check_exports.Goals as goal

pub returns-in_err-exports-clause-cause : goal.returns-in_err-exports-clause-cause
returns-in_err-exports-clause-cause c =
    handed_out (λ f. ExportsCause c.args.resolved.now c.args.part.now c.args.core.now f) c.from_residual.result c.in_err-exports.field-0.0 c.from_residual.ensures.1
    (λ f e. unfit f (c.in_err-exports.ensures.cause f e))

pub returns-in-Err-clause-cause : goal.returns-in-Err-clause-cause
returns-in-Err-clause-cause c = λ f e.
    missing c.in_ok-exports.exports f c.in_ok-exports.ensures.exact
    (subst (λ (ks : List ExportKey). RequiredCause c.args.resolved.now c.in_ok-exports.exports ks f) c.as_slice.ensures (c.in-Err.ensures.cause f e))
