use Rattle.std.proofs.Common.{rules}
use Rattle.supported_worlds.proofs.Gathered.{set_step}
use Rattle.supported_worlds.proofs.sets.apart_set.Goals as goal

pub loop-n-preserved : goal.loop-n-preserved
loop-n-preserved c =
    set_step c.args.ids.now c.loop-n.n _ c.loop-n.set c.put_interface.new.set c.in_ok-put_interface.field-0 c.loop-n.invariant c.loop-n-test.true c.in_ok-put_interface.ensures.fresh c.in_ok-put_interface.ensures.put (search rules)
