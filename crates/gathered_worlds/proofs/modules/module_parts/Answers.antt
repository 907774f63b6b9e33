use Rattle.std.proofs.Common.{◌≡◌, ap, subst, sym, ◌∙◌}
use Rattle.core_sections.specs.Entries.{module_of}
use Rattle.record_faults.specs.declared.fault.Failure.{Failure}
use Rattle.record_faults.specs.declared.fault.Failure.TheVariants as failures
use Rattle.record_faults.specs.declared.fault.Refusal.{Refusal}
use Rattle.gathered_worlds.specs.Causes.{ModuleCause}
use Rattle.gathered_worlds.proofs.Whole.{begins, unread_caused, module_caused, module_refused}
use Rattle.gathered_worlds.proofs.modules.module_parts.Goals as goal

pub core_parts-parts-requires-clause-bytes : goal.core_parts-parts-requires-clause-bytes
core_parts-parts-requires-clause-bytes c = begins c.args.part.now.bytes c.in-Ok.core (ap module_of (sym c.as_slice.ensures) ∙ c.in-Ok.ensures)

pub returns-in-Ok-clause-cause : goal.returns-in-Ok-clause-cause
returns-in-Ok-clause-cause c = module_caused c.args.resolved.now c.args.others.now c.args.arguments.now c.args.part.now c.in-Ok.core _ (ap module_of (sym c.as_slice.ensures) ∙ c.in-Ok.ensures) c.core_parts-parts.ensures.cause

pub returns-in-Ok-clause-refused : goal.returns-in-Ok-clause-refused
returns-in-Ok-clause-refused c = module_refused c.args.resolved.now c.args.others.now c.args.arguments.now c.args.part.now c.in-Ok.core _ (ap module_of (sym c.as_slice.ensures) ∙ c.in-Ok.ensures) c.core_parts-parts.ensures.refused

pub returns-in-Err-clause-cause : goal.returns-in-Err-clause-cause
returns-in-Err-clause-cause c =
    subst (λ (x : Failure). (f : Refusal) → x ≡ failures.Refused f → ModuleCause c.args.resolved.now c.args.others.now c.args.arguments.now c.args.part.now f) (sym c.from.ensures)
    (unread_caused c.args.resolved.now c.args.others.now c.args.arguments.now c.args.part.now c.in-Err.fault (λ other. ap module_of (sym c.as_slice.ensures) ∙ c.in-Err.ensures other))
