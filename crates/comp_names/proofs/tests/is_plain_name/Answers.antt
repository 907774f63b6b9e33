use Rattle.comp_names.proofs.Testing.{plain_tested}
use Rattle.comp_names.proofs.tests.is_plain_name.Goals as goal

pub returns : goal.returns
returns c = plain_tested c.is_plain.result c.args.name.now c.is_plain.ensures
