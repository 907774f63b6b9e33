use Rattle.core_import_names.specs.ImportNames.{standard_import}
use Rattle.core_import_names.proofs.imports.standard_import.Goals as goal

pub returns : goal.returns
unfolding standard_import
returns c = search (c.any_of_three.ensures, c.standard_root.ensures, c.standard_after.ensures, c.standard_after-2.ensures)
