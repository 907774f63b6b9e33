use Rattle.supported_worlds.proofs.Reporting.{rest_decides}
use Rattle.supported_worlds.proofs.encoding.left_out.Goals as goal

pub returns-clause-reported : goal.returns-clause-reported
returns-clause-reported c = rest_decides c.args.parts.now c.items_of-world.result.now _ c.items_of-world.ensures.items c.in_default.ensures.reported c.in_ok-found.ensures.reported
