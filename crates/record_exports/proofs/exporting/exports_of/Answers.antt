use Rattle.record_exports.proofs.Lifting.{all_lifted}
use Rattle.record_exports.proofs.exporting.exports_of.Goals as goal

pub returns-clause-lifted : goal.returns-clause-lifted
returns-clause-lifted c = all_lifted c.args.resolved.now c.args.roles.now c.args.core.now c.in_ok-all.all c.in_ok-all.ensures
