use Rattle.comp_names.proofs.Deciding.{both, first_fails, nowhere}
use Rattle.comp_names.proofs.Parts.{joined_iff, joined_nowhere, split_some, split_none}
use Rattle.comp_names.proofs.Labels.{label_lacks}
use Rattle.std.proofs.Common.{refl}
use Rattle.comp_names.specs.NameForm.{colon}
use Rattle.comp_names.proofs.form.is_unversioned.Goals as goal

pub returns-then-is_label : goal.returns-then-is_label
returns-then-is_label c = both (joined_iff (label_lacks colon refl) (split_some colon c.args.name.now c.split_once.result _ _ c.split_once.ensures c.in-Some.is)) c.if-is_label.true c.is_label.ensures c.is_pair.ensures

pub returns-else-is_label : goal.returns-else-is_label
returns-else-is_label c = first_fails (joined_iff (label_lacks colon refl) (split_some colon c.args.name.now c.split_once.result _ _ c.split_once.ensures c.in-Some.is)) c.if-is_label.false c.is_label.ensures

pub returns-in-None : goal.returns-in-None
returns-in-None c = nowhere (joined_nowhere colon c.args.name.now (split_none colon c.args.name.now c.split_once.result c.split_once.ensures c.in-None.is))
