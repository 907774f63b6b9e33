use Rattle.std.proofs.Common.{rules}
use Rattle.supported_worlds.proofs.Encodable.{is_encodable}
use Rattle.supported_worlds.proofs.encoding.unless_left_out.Goals as goal

pub returns-in_ok-world-in-Ok-None-clause-valid : goal.returns-in_ok-world-in-Ok-None-clause-valid
returns-in_ok-world-in-Ok-None-clause-valid c =
    is_encodable c.args.parts c.in_ok-world-in-Ok-None.world c.requires.sound c.requires.linked (search rules) (c.in-Ok-None.ensures.apart (search rules)) (search rules)
