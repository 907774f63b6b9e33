use Rattle.root_imports.proofs.Forgetting.{left_after}
use Rattle.root_imports.proofs.met_types.MetTypes.leave.Goals as goal

pub returns : goal.returns
returns c = left_after c.args.interface c.args.self.now c.remove.new.self c.iter.ensures.unique c.remove.ensures
