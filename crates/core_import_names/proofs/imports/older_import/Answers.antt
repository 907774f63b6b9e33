use Rattle.core_import_names.specs.ImportNames.{older_import}
use Rattle.core_import_names.proofs.imports.older_import.Goals as goal

pub returns : goal.returns
unfolding older_import
returns c = search (c.either.ensures, c.older_imported.ensures, c.older_exported.ensures)
