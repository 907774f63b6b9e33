use Rattle.std.proofs.Common.{sym}
use Rattle.core_runs.proofs.Growing.{shims_more}
use Rattle.core_runs.proofs.tables.table_shim_bodies.Goals as goal

pub loop-slot_index-preserved : goal.loop-slot_index-preserved
loop-slot_index-preserved c =
    rw (c.in_ok-put_shim.ensures, c.loop-slot_index.invariant) (sym (shims_more c.args.shims.now c.loop-slot_index.slot_index _ c.loop-slot_index-test.true))
