use Rattle.std.proofs.Common.{refl}
use Rattle.record_faults.specs.Faults.{flat}
use Rattle.gathered_worlds.specs.Causes.{PrepareCause, of_combined}
use Rattle.gathered_worlds.proofs.Steps.{handed_out}
use Rattle.gathered_worlds.proofs.Refusing.{caused}
use Rattle.gathered_worlds.proofs.Whole.{no_cause, all_caused}
use Rattle.gathered_worlds.proofs.preparing.prepare.Goals as goal

pub returns-in_err-refuse_adapters-clause-cause : goal.returns-in_err-refuse_adapters-clause-cause
returns-in_err-refuse_adapters-clause-cause c =
    handed_out (λ e. PrepareCause c.args.gathered.now (flat e)) c.from_residual.result c.in_err-refuse_adapters.field-0.0 c.from_residual.ensures.1
    (λ other. caused c.args.gathered.now c.in_err-refuse_adapters.field-0.0 c.in_err-refuse_adapters.ensures other)

pub returns-in_err-resolved-clause-cause : goal.returns-in_err-resolved-clause-cause
returns-in_err-resolved-clause-cause c =
    handed_out (λ e. PrepareCause c.args.gathered.now (flat e)) c.from_residual-in_err-resolved.result c.in_err-resolved.field-0.0 c.from_residual-in_err-resolved.ensures.1
    (λ other. of_combined (flat c.in_err-resolved.field-0.0) (c.in_err-resolved.ensures.cause other))

pub returns-clause-cause : goal.returns-clause-cause
returns-clause-cause c = all_caused c.args.gathered.now c.in_ok-resolved.resolved c.prepare_some.result c.in_ok-resolved.ensures.exact c.requires c.prepare_some.ensures.cause

pub returns-clause-refused : goal.returns-clause-refused
returns-clause-refused c = λ ok f k.
    no_cause c.args.gathered.now c.in_ok-resolved.resolved _ c.in_ok-refuse_adapters.ensures c.in_ok-resolved.ensures.exact (c.in_ok-resolved.ensures.refused refl) (c.prepare_some.ensures.refused ok) f k
