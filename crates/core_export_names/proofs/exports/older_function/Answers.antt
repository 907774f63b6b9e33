use Rattle.core_export_names.specs.ExportNames.{older_function}
use Rattle.core_export_names.proofs.exports.older_function.Goals as goal

pub returns : goal.returns
unfolding older_function
returns c = search (c.any_of_three.ensures, c.older_plain_role.ensures, c.called_name.ensures, c.helper_name.ensures)
