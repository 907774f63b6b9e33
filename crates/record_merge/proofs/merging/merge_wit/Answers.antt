use Rattle.record_merge.proofs.Agreeing.{no_conflict}
use Rattle.record_merge.proofs.merging.merge_wit.Goals as goal

-- src/merging.rt:68:1
pub returns-clause-refused : goal.returns-clause-refused
returns-clause-refused c ok name clash = no_conflict c.args.first.now c.args.second.now c.in_ok-combined.combined c.in_ok-combined.ensures.exact name clash
