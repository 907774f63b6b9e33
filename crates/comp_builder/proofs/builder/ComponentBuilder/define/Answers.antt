use Rattle.std.proofs.Common.{rules}
use Rattle.comp_bytes.proofs.ItemIndices.{at_added}
use Rattle.comp_builder.proofs.builder.ComponentBuilder.define.Goals as goal

pub returns-clause-at : goal.returns-clause-at
returns-clause-at c = at_added c.args.self.now.defs _ c.args.space _ c.args.def c.requires (search rules) (search rules)
