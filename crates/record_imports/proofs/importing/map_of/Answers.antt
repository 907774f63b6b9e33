use Rattle.record_imports.proofs.Fields.{are_met}
use Rattle.record_imports.proofs.importing.map_of.Goals as goal

pub returns-clause-checks : goal.returns-clause-checks
returns-clause-checks c = are_met c.args.arguments.now _ c.args.groups.items _ c.in_ok-modules.ensures c.requires.good c.requires.apart
