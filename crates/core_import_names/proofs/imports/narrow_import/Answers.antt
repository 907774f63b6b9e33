use Rattle.core_import_names.proofs.imports.narrow_import.Goals as goal

pub returns : goal.returns
returns c = search (c.either.ensures, c.adapter_import.ensures, c.function_import.ensures)
