use Rattle.std.proofs.Common.{codes, refl, ◌∙◌}
use Rattle.record_worlds.proofs.items.take_world_members.Goals as goal

pub returns-clause-imports : goal.returns-clause-imports
returns-clause-imports c = c.take_member-imports.ensures.taken ∙ c.take_member-interfaces.ensures.others (codes "imports") refl

pub returns-clause-exports : goal.returns-clause-exports
returns-clause-exports c =
    c.take_member-exports.ensures.taken ∙ c.take_member-imports.ensures.others (codes "exports") refl ∙ c.take_member-interfaces.ensures.others (codes "exports") refl
