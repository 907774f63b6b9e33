use Rattle.std.proofs.Common.{append_assoc, refl}
use Rattle.core_runs.proofs.Wrappers.{is_wrapper}
use Rattle.core_runs.proofs.bodies.wrapper_body.Goals as goal

pub returns-clause-wraps : goal.returns-clause-wraps
returns-clause-wraps c =
    is_wrapper _ c.args.params c.args.bracket c.args.hook c.args.target
    (rw (c.in_ok-locals.ensures, c.from_vec.ensures, c.in_ok-put_after.ensures, c.in_ok-put.ensures, c.in_ok-put_gets.ensures, c.in_ok-put_before.ensures, c.new-code.ensures.items, append_assoc, append_assoc) refl)
