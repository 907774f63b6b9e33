use Rattle.std.proofs.Common.{codes, refl, ◌∙◌}
use Rattle.serde_json.specs.View.{view}
use Rattle.records.proofs.Members.{same_world}
use Rattle.records.proofs.record.parts_of.Goals as goal

pub returns-clause-exports : goal.returns-clause-exports
returns-clause-exports c = c.take_member-core_exports.ensures.taken ∙ c.take_member-core_imports.ensures.others (codes "core-exports") refl

pub returns-clause-world : goal.returns-clause-world
returns-clause-world c = same_world (view c.args.value) _ _ c.take_member-core_imports.ensures.others c.take_member-core_exports.ensures.others
