use Rattle.core_import_names.proofs.imports.exported_field.Goals as goal

pub returns : goal.returns
returns c = search (c.any_of_three.ensures, c.handle_field.ensures, c.returned_after.ensures, c.cancelled.ensures)
