use Rattle.std.proofs.Common.{refl, sym, subst}
use Rattle.gathered_worlds.specs.Guarantees.{AreChecked}
use Rattle.gathered_worlds.specs.Causes.{RolesCause, of_imports, of_exports}
use Rattle.gathered_worlds.proofs.CheckingCauses.{handed_out, no_met_cause}
use Rattle.gathered_worlds.proofs.checking.check_roles.Goals as goal

pub returns-in_err-imports-clause-cause : goal.returns-in_err-imports-clause-cause
returns-in_err-imports-clause-cause c =
    handed_out (λ f. RolesCause c.args.resolved.now c.args.others.now c.args.arguments.now c.args.part.now c.args.core.now f) c.from_residual.result c.in_err-imports.field-0.0 c.from_residual.ensures.1
    (λ f e. of_imports f (c.in_err-imports.ensures.cause f e))

pub returns-in-Err-clause-cause : goal.returns-in-Err-clause-cause
returns-in-Err-clause-cause c = λ f e. of_exports f (c.in-Err.ensures.cause f e)

pub returns-in-Ok-clause-all_present : goal.returns-in-Ok-clause-all_present
returns-in-Ok-clause-all_present c =
    subst (AreChecked c.args.resolved.now) (sym c.with_imports.ensures)
    (record { roles = c.in_ok-imports.ensures.present; called = c.in_ok-imports.ensures.called; lifted = c.in-Ok.ensures.lifted; kept = c.in-Ok.ensures.kept })

pub returns-in-Ok-clause-refused : goal.returns-in-Ok-clause-refused
returns-in-Ok-clause-refused c = λ ok. no_met_cause c.args.resolved.now c.args.others.now c.args.arguments.now c.args.part.now c.args.core.now (c.in_ok-imports.ensures.refused refl) (c.in-Ok.ensures.refused refl)
