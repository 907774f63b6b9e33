use Rattle.std.proofs.Common.{refl}
use Rattle.gathered_worlds.proofs.Adding.{is_adapter}
use Rattle.gathered_worlds.proofs.adapters.adapter_of.Goals as goal

pub returns-in-Ok-clause-ok : goal.returns-in-Ok-clause-ok
returns-in-Ok-clause-ok c =
    is_adapter c.args.resolved.now c.args.reach.now c.args.adapter.now c.in-Ok.parts c.in_ok-library_info.library_info c.put_together.result c.in-Ok.ensures.exact c.in_ok-library_info.ensures c.put_together.ensures
    c.in-Ok.ensures.sound (c.in-Ok.ensures.refused refl)
