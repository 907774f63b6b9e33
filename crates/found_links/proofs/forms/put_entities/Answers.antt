use Rattle.std.proofs.Common.{◌∙◌}
use Rattle.found_links.proofs.Entities.{entity_next}
use Rattle.found_links.proofs.forms.put_entities.Goals as goal

pub loop-c-preserved : goal.loop-c-preserved
loop-c-preserved c = entity_next _ _ _ _ c.in-Some.c c.in-Some.ensures.steps.0 c.in_ok-put_entity.ensures ∙ c.loop-c.invariant
