use Rattle.record_texts.proofs.Stacks.{popped_top, popped_rest}
use Rattle.record_texts.proofs.types.Stack.pop.Goals as goal

pub returns-in-Some-clause-value : goal.returns-in-Some-clause-value
returns-in-Some-clause-value c = popped_top c.args.self.now.values.items c.pop.new.self.items c.in-Some.value c.in-Some.ensures.items

pub returns-in-Some-clause-left : goal.returns-in-Some-clause-left
returns-in-Some-clause-left c = popped_rest c.args.self.now.values.items c.pop.new.self.items c.in-Some.value c.in-Some.ensures.items
