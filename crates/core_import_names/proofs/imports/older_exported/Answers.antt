use Rattle.core_import_names.proofs.imports.older_exported.Goals as goal

pub returns : goal.returns
returns c = search (c.either.ensures, c.of_exported_root.ensures, c.of_exported_label.ensures)
