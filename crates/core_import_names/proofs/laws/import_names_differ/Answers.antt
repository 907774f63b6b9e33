use Rattle.core_import_names.proofs.Readback.{import_names_differ_lem}
use Rattle.core_import_names.proofs.laws.import_names_differ.Goals as goal

pub returns : goal.returns
returns c = import_names_differ_lem
