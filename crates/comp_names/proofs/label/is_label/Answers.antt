use Rattle.comp_names.proofs.Deciding.{both, tests}
use Rattle.comp_names.proofs.Labels.{label_iff}
use Rattle.comp_names.proofs.label.is_label.Goals as goal

pub returns-then-begins_with_letter : goal.returns-then-begins_with_letter
returns-then-begins_with_letter c = both (label_iff c.args.text.now) c.if-begins_with_letter.true (tests c.begins_with_letter.ensures) c.are_words.ensures
