use Rattle.core_export_names.specs.ExportNames.{standard_function}
use Rattle.core_export_names.proofs.exports.standard_function.Goals as goal

pub returns : goal.returns
unfolding standard_function
returns c = search (c.either.ensures, c.standard_plain_role.ensures, c.standard_item.ensures)
