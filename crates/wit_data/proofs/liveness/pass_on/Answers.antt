use Rattle.wit_data.proofs.Marking.{pass_marked}
use Rattle.wit_data.proofs.liveness.pass_on.Goals as goal

pub returns-then-marks-n : goal.returns-then-marks-n
returns-then-marks-n c = pass_marked c.args.types.now c.args.marks.now c.mark_parts.new.marks c.args.n c.requires.sound c.requires.present c.if-marks-n.true c.mark_parts.ensures
