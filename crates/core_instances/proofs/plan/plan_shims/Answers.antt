use Rattle.core_instances.proofs.Unplanned.{plan_refused}
use Rattle.shim_targets.proofs.Returned.{all_returned}
use Rattle.core_instances.proofs.plan.plan_shims.Goals as goal

pub plan_shims-requires-clause-sound : goal.plan_shims-requires-clause-sound
plan_shims-requires-clause-sound c = c.requires.sound

pub plan_shims-requires-clause-returned : goal.plan_shims-requires-clause-returned
plan_shims-requires-clause-returned c = all_returned c.args.world.now c.requires

pub returns-in-Err-clause-cause : goal.returns-in-Err-clause-cause
returns-in-Err-clause-cause c = rw c.plan_fault.ensures (plan_refused c.args.world.now c.requires c.in-Err.fault c.in-Err.ensures.cause)
