use Rattle.std.proofs.Common.{append_assoc, refl}
use Rattle.core_runs.proofs.Refs.{is_ref_shim}
use Rattle.core_runs.proofs.bodies.ref_shim_body.Goals as goal

pub returns-clause-forwards : goal.returns-clause-forwards
returns-clause-forwards c =
    is_ref_shim _ c.args.params c.args.global c.args.type_index
    (rw (c.plain.ensures, c.in_ok-put-2.ensures, c.in_ok-put.ensures, c.in_ok-put_gets.ensures, c.new-code.ensures.items, append_assoc) refl)
