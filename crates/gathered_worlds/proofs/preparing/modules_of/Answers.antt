use Rattle.std.proofs.Common.{◌≡◌, Err, subst}
use Rattle.std.specs.Prelude.{◌≢◌, IfErr, IfOk}
use Rattle.record_faults.specs.declared.fault.Failure.TheVariants as failures
use Rattle.record_faults.specs.declared.fault.Refusal.{Refusal}
use Rattle.gathered_worlds.specs.Adding.{AreModulesOf}
use Rattle.gathered_worlds.specs.Causes.{PartsCause}
use Rattle.gathered_worlds.specs.Preparing.{parts_within}
use Rattle.gathered_worlds.specs.declared.reach.Reach.{Reach}
use Rattle.gathered_worlds.proofs.preparing.modules_of.Goals as goal

pub returns-clause-ok : goal.returns-clause-ok
returns-clause-ok c =
    subst (λ (x : Reach). IfOk c.modules_within-modules.result (AreModulesOf c.args.resolved.now x c.args.main.now c.args.adapters.now)) c.in_ok-reach.ensures c.modules_within-modules.ensures.ok

pub returns-clause-err : goal.returns-clause-err
returns-clause-err c =
    subst (λ (x : Reach). IfErr c.modules_within-modules.result (λ e. e ≢ failures.Memory → parts_within c.args.resolved.now x c.args.main.now c.args.adapters.now ≡ Err e)) c.in_ok-reach.ensures c.modules_within-modules.ensures.err

pub returns-clause-cause : goal.returns-clause-cause
returns-clause-cause c =
    subst (λ (x : Reach). IfErr c.modules_within-modules.result (λ e. (f : Refusal) → e ≡ failures.Refused f → PartsCause c.args.resolved.now x c.args.main.now c.args.adapters.now f)) c.in_ok-reach.ensures
    c.modules_within-modules.ensures.cause
