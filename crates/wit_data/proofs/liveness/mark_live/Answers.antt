use Rattle.wit_data.proofs.Marking.{live_end}
use Rattle.wit_data.proofs.liveness.mark_live.Goals as goal

pub returns : goal.returns
returns c = live_end c.args.types.now c.args.given.now c.args.marks.now c.mark_given.new.marks c.pass_all_on.new.marks c.requires.none c.mark_given.ensures c.pass_all_on.ensures
