use Rattle.std.proofs.Common.{◌∙◌}
use Rattle.nested_components.proofs.Letters.{letter_next}
use Rattle.nested_components.proofs.names.put_letters.Goals as goal

pub loop-c-preserved : goal.loop-c-preserved
loop-c-preserved c = letter_next _ _ _ _ c.in-Some.c c.in-Some.ensures.steps.0 c.in_ok-put_letter.ensures ∙ c.loop-c.invariant
