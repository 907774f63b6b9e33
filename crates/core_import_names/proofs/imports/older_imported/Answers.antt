use Rattle.core_import_names.proofs.imports.older_imported.Goals as goal

pub returns : goal.returns
returns c = search (c.either.ensures, c.of_root.ensures, c.of_imported.ensures)
