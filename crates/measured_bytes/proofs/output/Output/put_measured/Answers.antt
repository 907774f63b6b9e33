use Rattle.std.proofs.Common.{rules}
use Rattle.measured_bytes.proofs.Putting.{puts_measured}
use Rattle.measured_bytes.proofs.output.Output.put_measured.Goals as goal

pub returns-then-is_none : goal.returns-then-is_none
returns-then-is_none c = λ s p. puts_measured c.args.self.now c.args.measured.now _ s c.requires p (search rules) (search rules) (search rules) (search rules)

pub returns-else-is_none : goal.returns-else-is_none
returns-else-is_none c = λ s p. puts_measured c.args.self.now c.args.measured.now _ s c.requires p (search rules) (search rules) (search rules) (search rules)
