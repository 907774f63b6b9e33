use Rattle.core_export_names.specs.ExportNames.{standard_in}
use Rattle.core_export_names.proofs.exports.standard_in.Goals as goal

pub returns : goal.returns
unfolding standard_in
returns c = search (c.any_of_three.ensures, c.used.ensures, c.used_before.ensures, c.used_before-2.ensures)
