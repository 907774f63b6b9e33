use Rattle.core_export_names.specs.ExportNames.{used_name}
use Rattle.core_export_names.proofs.exports.used_name.Goals as goal

pub returns : goal.returns
unfolding used_name
returns c = search (c.either.ensures, c.used_of_root.ensures, c.used_split.ensures)
