use Rattle.std.proofs.Common.{ap, ◌∙◌}
use Rattle.wit_data.specs.declared.resolve.Resolve.{Resolve}
use Rattle.gathered_worlds.specs.Preparing.{world_with}
use Rattle.gathered_worlds.specs.Reach.{reach_of}
use Rattle.gathered_worlds.proofs.Adding.{parts_made, parts_sound}
use Rattle.gathered_worlds.proofs.preparing.world_parts.Goals as goal

pub returns-in-Ok-clause-exact : goal.returns-in-Ok-clause-exact
returns-in-Ok-clause-exact c =
    parts_made c.args.resolved (reach_of c.args.adapters.now) c.args.main.now c.args.adapters.now c.in-Ok.modules c.put_together.result c.in-Ok.ensures.ok
    (c.put_together.ensures ∙ ap (λ (x : Resolve). world_with x c.in-Ok.modules.main c.in-Ok.modules.adapters c.args.main.now.own.roles.context_slot_1) c.into_resolve.ensures)

pub returns-in-Ok-clause-sound : goal.returns-in-Ok-clause-sound
returns-in-Ok-clause-sound c =
    parts_sound c.args.resolved (reach_of c.args.adapters.now) c.args.main.now c.args.adapters.now c.in-Ok.modules c.put_together.result c.requires c.in-Ok.ensures.ok
    (c.put_together.ensures ∙ ap (λ (x : Resolve). world_with x c.in-Ok.modules.main c.in-Ok.modules.adapters c.args.main.now.own.roles.context_slot_1) c.into_resolve.ensures)

pub returns-in-Ok-clause-refused : goal.returns-in-Ok-clause-refused
returns-in-Ok-clause-refused c = λ ok. let h = c.in-Ok.ensures.ok in h.fine
