use Rattle.core_import_names.proofs.Readback.{imports_are_read_back_lem}
use Rattle.core_import_names.proofs.laws.imports_are_read_back.Goals as goal

pub returns : goal.returns
returns c = imports_are_read_back_lem
