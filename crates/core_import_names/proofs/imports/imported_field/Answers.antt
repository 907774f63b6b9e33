use Rattle.core_import_names.proofs.imports.imported_field.Goals as goal

pub returns : goal.returns
returns c = search (c.any_of_three.ensures, c.called.ensures, c.called_after.ensures, c.dropped_after.ensures)
