use Rattle.std.proofs.Common.{rules}
use Rattle.measured_bytes.proofs.Putting.{puts_excess}
use Rattle.measured_bytes.proofs.output.Output.put_excess.Goals as goal

pub returns-then-is_none : goal.returns-then-is_none
returns-then-is_none c = λ n e. puts_excess c.args.self.now _ c.args.excess n c.requires e (search rules) (search rules) (search rules)

pub returns-else-is_none : goal.returns-else-is_none
returns-else-is_none c = λ n e. puts_excess c.args.self.now _ c.args.excess n c.requires e (search rules) (search rules) (search rules)
