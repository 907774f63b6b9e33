use Rattle.world_shims.proofs.Refused.{shim_refused, shim_too_many}
use Rattle.world_shims.proofs.fixup.add_shim.Goals as goal

pub build_fault-requires : goal.build_fault-requires
build_fault-requires c = shim_refused c.args.fixup.now c.args.shim.now c.as_str.result.now c.in_ok-ty.ty c.in-Err.fault c.requires c.as_str.ensures c.in-Err.ensures.cause

pub returns-in-Err-clause-many : goal.returns-in-Err-clause-many
returns-in-Err-clause-many c =
    shim_too_many c.args.fixup.now c.args.shim.now c.as_str.result.now c.in_ok-ty.ty c.in-Err.fault c.build_fault.result c.requires c.as_str.ensures c.in-Err.ensures.cause c.build_fault.ensures.same
