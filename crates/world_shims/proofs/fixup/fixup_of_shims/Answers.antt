use Rattle.std.proofs.Common.{◌+◌, length}
use Rattle.world_shims.specs.Refusals.{HasTooMany}
use Rattle.std.specs.Option.{option_copied}
use Rattle.world_shims.proofs.Calling.{refused_as, call_beyond, encode_refused, encode_too_many}
use Rattle.world_shims.proofs.fixup.fixup_of_shims.Goals as goal

pub returns-in_err-add_call-clause-many : goal.returns-in_err-add_call-clause-many
returns-in_err-add_call-clause-many c =
    refused_as c.from_residual-in_err-add_call.result _ (HasTooMany (length c.args.shims.now + 1)) c.from_residual-in_err-add_call.ensures.1
    (call_beyond c.args.shims.now c.in_ok-fixup.fixup c.in_err-add_call.field-0.0 c.in_ok-fixup.ensures.ok c.in_err-add_call.ensures.many)

pub build_fault-requires : goal.build_fault-requires
build_fault-requires c = encode_refused c.in_ok-fixup.fixup _ (option_copied c.args.initialize) c.in-Err.fault c.in_ok-fixup.ensures.actual c.in_ok-add_call.ensures.ok c.in-Err.ensures.cause

pub returns-in-Err-clause-many : goal.returns-in-Err-clause-many
returns-in-Err-clause-many c =
    encode_too_many (length c.args.shims.now + 1) c.in_ok-fixup.fixup _ (option_copied c.args.initialize) c.in-Err.fault c.build_fault.result c.in_ok-fixup.ensures.actual c.in_ok-add_call.ensures.ok c.in-Err.ensures.cause c.build_fault.ensures.same
