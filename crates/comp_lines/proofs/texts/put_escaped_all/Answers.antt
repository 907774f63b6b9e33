use Rattle.std.proofs.Common.{◌∙◌}
use Rattle.comp_lines.proofs.Wide.{escaped_next}
use Rattle.comp_lines.proofs.texts.put_escaped_all.Goals as goal

pub loop-c-preserved : goal.loop-c-preserved
loop-c-preserved c = escaped_next _ _ _ _ c.in-Some.c c.in-Some.ensures.steps.0 c.in_ok-put_escaped.ensures ∙ c.loop-c.invariant
