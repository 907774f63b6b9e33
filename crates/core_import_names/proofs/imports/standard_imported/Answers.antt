use Rattle.core_import_names.proofs.imports.standard_imported.Goals as goal

pub returns : goal.returns
returns c = search (c.either.ensures, c.called.ensures, c.dropped_before.ensures)
