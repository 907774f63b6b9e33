use Rattle.std.proofs.Common.{◌≡◌, refl, Err}
use Rattle.gathered_worlds.specs.Causes.{PartsCause, of_main, of_adapters}
use Rattle.gathered_worlds.specs.Preparing.{parts_within}
use Rattle.gathered_worlds.proofs.Adding.{are_modules, main_refused, adapters_refused}
use Rattle.gathered_worlds.proofs.CheckingCauses.{handed_out}
use Rattle.gathered_worlds.proofs.Steps.{handed_out as returned}
use Rattle.gathered_worlds.proofs.preparing.modules_within.Goals as goal

pub returns-in_err-main-clause-err : goal.returns-in_err-main-clause-err
returns-in_err-main-clause-err c =
    returned (λ e. parts_within c.args.resolved.now c.args.reach.now c.args.main.now c.args.adapters.now ≡ Err e) c.from_residual.result c.in_err-main.field-0.0 c.from_residual.ensures.1
    (λ other. main_refused c.args.resolved.now c.args.reach.now c.args.main.now c.args.adapters.now c.in_err-main.field-0.0 (c.in_err-main.ensures.exact other))

pub returns-in_err-main-clause-cause : goal.returns-in_err-main-clause-cause
returns-in_err-main-clause-cause c =
    handed_out (λ f. PartsCause c.args.resolved.now c.args.reach.now c.args.main.now c.args.adapters.now f) c.from_residual.result c.in_err-main.field-0.0 c.from_residual.ensures.1
    (λ f e. of_main f (c.in_err-main.ensures.cause f e))

pub returns-in-Ok-clause-ok : goal.returns-in-Ok-clause-ok
returns-in-Ok-clause-ok c =
    are_modules c.args.resolved.now c.args.reach.now c.args.main.now c.args.adapters.now c.in_ok-main.main c.in-Ok.adapters c.in_ok-main.ensures.exact c.in-Ok.ensures.exact c.in_ok-main.ensures.sound c.in-Ok.ensures.sound
    (c.in_ok-main.ensures.refused refl) (c.in-Ok.ensures.refused refl)

pub returns-in-Err-clause-err : goal.returns-in-Err-clause-err
returns-in-Err-clause-err c = λ other. adapters_refused c.args.resolved.now c.args.reach.now c.args.main.now c.args.adapters.now c.in_ok-main.main c.in-Err.failure c.in_ok-main.ensures.exact (c.in-Err.ensures.exact other)

pub returns-in-Err-clause-cause : goal.returns-in-Err-clause-cause
returns-in-Err-clause-cause c = λ f e. of_adapters f (c.in-Err.ensures.cause f e)
