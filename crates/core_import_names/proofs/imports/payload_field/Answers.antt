use Rattle.core_import_names.proofs.imports.payload_field.Goals as goal

pub returns : goal.returns
returns c = search (c.either.ensures, c.payload.ensures, c.payload_after.ensures)
