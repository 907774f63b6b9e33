use Rattle.comp_names.proofs.Deciding.{ok_both, denied, nowhere}
use Rattle.comp_names.proofs.Parts.{joined_iff, joined_nowhere, split_some, split_none}
use Rattle.comp_names.proofs.Labels.{unversioned_lacks}
use Rattle.comp_names.specs.NameForm.{at_sign}
use Rattle.comp_names.proofs.form.is_versioned.Goals as goal

pub returns-then-is_unversioned : goal.returns-then-is_unversioned
returns-then-is_unversioned c = ok_both c.is_version_text.result (joined_iff unversioned_lacks (split_some at_sign c.args.name.now c.split_once.result _ _ c.split_once.ensures c.in-Some.is)) c.if-is_unversioned.true c.is_unversioned.ensures c.is_version_text.ensures

pub returns-else-is_unversioned : goal.returns-else-is_unversioned
returns-else-is_unversioned c = denied (joined_iff unversioned_lacks (split_some at_sign c.args.name.now c.split_once.result _ _ c.split_once.ensures c.in-Some.is)) c.if-is_unversioned.false c.is_unversioned.ensures

pub returns-in-None : goal.returns-in-None
returns-in-None c = nowhere (joined_nowhere at_sign c.args.name.now (split_none at_sign c.args.name.now c.split_once.result c.split_once.ensures c.in-None.is))
