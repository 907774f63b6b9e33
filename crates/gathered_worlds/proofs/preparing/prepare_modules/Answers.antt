use Rattle.std.proofs.Common.{refl}
use Rattle.gathered_worlds.specs.Causes.{of_parts}
use Rattle.gathered_worlds.proofs.Whole.{world_caused, world_refused}
use Rattle.gathered_worlds.proofs.preparing.prepare_modules.Goals as goal

pub returns-in-Ok-clause-cause : goal.returns-in-Ok-clause-cause
returns-in-Ok-clause-cause c = world_caused c.args.resolved c.args.main.now c.args.adapters.now c.in-Ok.parts c.linked_world.result c.in-Ok.ensures.exact c.linked_world.ensures.cause

pub returns-in-Ok-clause-refused : goal.returns-in-Ok-clause-refused
returns-in-Ok-clause-refused c =
    world_refused c.args.resolved c.args.main.now c.args.adapters.now c.in-Ok.parts c.linked_world.result c.in-Ok.ensures.exact (c.in-Ok.ensures.refused refl) c.linked_world.ensures.refused

pub returns-in-Err-clause-cause : goal.returns-in-Err-clause-cause
returns-in-Err-clause-cause c = λ f e. of_parts f (c.in-Err.ensures.cause f e)
