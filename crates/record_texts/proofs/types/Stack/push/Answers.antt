use Rattle.std.proofs.Common.{◌∙◌, ap, map, reverse}
use Rattle.serde_json.specs.View.{view}
use Rattle.record_texts.proofs.Stacks.{pushed}
use Rattle.record_texts.proofs.types.Stack.push.Goals as goal

pub returns : goal.returns
returns c = ap (λ vs. reverse (map view vs)) c.in_ok-push.ensures.items ∙ pushed c.args.self.now.values.items c.args.value
