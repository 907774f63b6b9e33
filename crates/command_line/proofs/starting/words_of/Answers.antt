use Rattle.std.proofs.Common.{rules, ap, ◌∙◌, Some, string_bytes}
use Rattle.command_line.proofs.Words.{words_more, text_more, text_not}
use Rattle.command_line.proofs.starting.words_of.Goals as goal

pub returns-in_default-clause-cause : goal.returns-in_default-clause-cause
returns-in_default-clause-cause c = λ n e.
    text_not (λ a. a.items) c.args.arguments.now c.loop-argument.argument-index c.argument-item.result c.loop-argument-test.true c.argument-item.is
    _ _ c.loop-argument.invariant.2 c.as_slice.ensures.value c.in_default.ensures.cases.0 ∙ ap (λ m. Some m) (search rules)

pub loop-argument-preserved : goal.loop-argument-preserved
loop-argument-preserved c = (
  words_more (λ a. a.items) c.args.arguments.now c.loop-argument.argument-index c.argument-item.result c.loop-argument-test.true c.argument-item.is
      string_bytes c.loop-argument.words.items c.push.new.self.items c.in-Ok-from_str.word c.loop-argument.invariant.0 (search rules) (search rules),
  search rules,
  text_more (λ a. a.items) c.args.arguments.now c.loop-argument.argument-index c.argument-item.result c.loop-argument-test.true c.argument-item.is
      _ _ c.loop-argument.invariant.2 c.as_slice.ensures.value c.in-Ok.ensures.cases.1,
)
