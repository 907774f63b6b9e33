use Rattle.std.proofs.Common.{refl}
use Rattle.gathered_worlds.specs.Causes.{AdapterCause}
use Rattle.gathered_worlds.proofs.Adding.{adapter_cause, no_adapter_cause}
use Rattle.gathered_worlds.proofs.CheckingCauses.{handed_out}
use Rattle.gathered_worlds.proofs.adapters.adapter_parts.Goals as goal

pub returns-in_err-parts-clause-cause : goal.returns-in_err-parts-clause-cause
returns-in_err-parts-clause-cause c =
    handed_out (λ f. AdapterCause c.args.resolved.now c.args.reach.now c.args.adapter.now f) c.from_residual-in_err-parts.result c.in_err-parts.field-0.0 c.from_residual-in_err-parts.ensures.1
    (λ f e. adapter_cause c.args.resolved.now c.args.reach.now c.args.adapter.now _ _ c.others_for-others.ensures c.in_ok-arguments.ensures f (c.in_err-parts.ensures.cause f e))

pub returns-clause-refused : goal.returns-clause-refused
returns-clause-refused c = λ ok.
    no_adapter_cause c.args.resolved.now c.args.reach.now c.args.adapter.now _ _ c.others_for-others.ensures c.in_ok-arguments.ensures (c.in_ok-parts.ensures.refused refl)
