use Rattle.comp_names.proofs.Deciding.{both, first_fails, nowhere}
use Rattle.comp_names.proofs.Parts.{joined_iff, joined_nowhere, split_some, split_none}
use Rattle.comp_names.proofs.Labels.{number_lacks}
use Rattle.comp_names.specs.NameForm.{dot}
use Rattle.comp_names.proofs.version.is_short_version.Goals as goal

pub returns-then-is_number : goal.returns-then-is_number
returns-then-is_number c = both (joined_iff number_lacks (split_some dot c.args.text.now c.split_once.result _ _ c.split_once.ensures c.in-Some.is)) c.if-is_number.true c.is_number.ensures c.is_number-then-is_number.ensures

pub returns-else-is_number : goal.returns-else-is_number
returns-else-is_number c = first_fails (joined_iff number_lacks (split_some dot c.args.text.now c.split_once.result _ _ c.split_once.ensures c.in-Some.is)) c.if-is_number.false c.is_number.ensures

pub returns-in-None : goal.returns-in-None
returns-in-None c = nowhere (joined_nowhere dot c.args.text.now (split_none dot c.args.text.now c.split_once.result c.split_once.ensures c.in-None.is))
