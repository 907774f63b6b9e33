use Rattle.supported_worlds.proofs.Reporting.{no_cause}
use Rattle.supported_worlds.proofs.encoding.encoded_world.Goals as goal

pub returns-clause-refused : goal.returns-clause-refused
returns-clause-refused c = λ ok f k. no_cause c.args.parts c.in_ok-world.world c.in_ok-world.ensures.exact f k
