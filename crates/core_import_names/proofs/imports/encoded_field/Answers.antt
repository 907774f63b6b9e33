use Rattle.core_import_names.proofs.imports.encoded_field.Goals as goal

pub returns : goal.returns
returns c = search (c.either.ensures, c.field_on_side.ensures, c.payload_field.ensures)
