use Rattle.std.proofs.Common.{refl}
use Rattle.gathered_worlds.specs.Causes.{unlinked}
use Rattle.gathered_worlds.proofs.Whole.{left_out_caused, whole_refused}
use Rattle.gathered_worlds.proofs.preparing.linked_world.Goals as goal

pub returns-in-Ok-clause-cause : goal.returns-in-Ok-clause-cause
returns-in-Ok-clause-cause c = left_out_caused c.args.parts c.encoded_world.result c.encoded_world.ensures.cause

pub returns-in-Ok-clause-refused : goal.returns-in-Ok-clause-refused
returns-in-Ok-clause-refused c = whole_refused c.args.parts c.encoded_world.result (c.in-Ok.ensures.refused refl) c.encoded_world.ensures.refused

pub returns-in-Err-clause-cause : goal.returns-in-Err-clause-cause
returns-in-Err-clause-cause c = λ f e. unlinked f (c.in-Err.ensures.cause f e)
