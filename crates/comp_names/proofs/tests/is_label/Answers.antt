use Rattle.comp_names.proofs.Testing.{label_tested}
use Rattle.comp_names.proofs.tests.is_label.Goals as goal

pub returns : goal.returns
returns c = label_tested c.is_label.result c.args.text.now c.is_label.ensures
