use Rattle.core_import_names.proofs.imports.root_import.Goals as goal

pub returns : goal.returns
returns c = search (c.either.ensures, c.root_field.ensures, c.as_builtin.ensures)
