use Rattle.std.proofs.Common.{append_assoc, refl}
use Rattle.std.specs.Int.{w32}
use Rattle.std.proofs.lemmas.Int.{of_z-to_z}
use Rattle.core_runs.proofs.Shims.{is_table_shim}
use Rattle.core_runs.proofs.bodies.table_shim_body.Goals as goal

pub returns-clause-forwards : goal.returns-clause-forwards
returns-clause-forwards c =
    is_table_shim _ c.args.params c.args.position c.args.type_index
    (rw (c.plain.ensures, c.in_ok-put-2.ensures, c.in_ok-put.ensures, c.in_ok-put_gets.ensures, c.new-code.ensures.items, c.cast_signed.ensures, append_assoc, of_z-to_z w32 c.args.position c.ranges.position.fits) refl)
    c.ranges.position.fits
