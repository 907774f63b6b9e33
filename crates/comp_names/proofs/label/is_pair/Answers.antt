use Rattle.comp_names.proofs.Deciding.{both, first_fails, nowhere}
use Rattle.comp_names.proofs.Parts.{joined_iff, joined_nowhere, split_some, split_none}
use Rattle.comp_names.proofs.Labels.{label_lacks}
use Rattle.comp_names.proofs.label.is_pair.Goals as goal

pub returns-then-is_label : goal.returns-then-is_label
returns-then-is_label c = both (joined_iff (label_lacks c.args.mark c.requires) (split_some c.args.mark c.args.pair.now c.split_once.result _ _ c.split_once.ensures c.in-Some.is)) c.if-is_label.true c.is_label.ensures c.is_label-then-is_label.ensures

pub returns-else-is_label : goal.returns-else-is_label
returns-else-is_label c = first_fails (joined_iff (label_lacks c.args.mark c.requires) (split_some c.args.mark c.args.pair.now c.split_once.result _ _ c.split_once.ensures c.in-Some.is)) c.if-is_label.false c.is_label.ensures

pub returns-in-None : goal.returns-in-None
returns-in-None c = nowhere (joined_nowhere c.args.mark c.args.pair.now (split_none c.args.mark c.args.pair.now c.split_once.result c.split_once.ensures c.in-None.is))
