use Rattle.std.proofs.Common.{codes, refl, ◌∙◌}
use Rattle.serde_json.specs.View.{view}
use Rattle.record_types.proofs.Members.{required_taken}
use Rattle.record_types.proofs.interfaces.take_members.Goals as goal

pub returns-clause-id : goal.returns-clause-id
returns-clause-id c = required_taken (codes "id") (view c.args.value) _ c.take_member-id.ensures.taken

pub returns-clause-types : goal.returns-clause-types
returns-clause-types c =
    required_taken (codes "types") (view c.args.value) _ (c.take_member-types.ensures.taken ∙ c.take_member-id.ensures.others (codes "types") refl)

pub returns-clause-functions : goal.returns-clause-functions
returns-clause-functions c =
    required_taken (codes "functions") (view c.args.value) _
    (c.take_member-functions.ensures.taken ∙ c.take_member-types.ensures.others (codes "functions") refl ∙ c.take_member-id.ensures.others (codes "functions") refl)
