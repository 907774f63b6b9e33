use Rattle.core_import_names.proofs.imports.item_of_main.Goals as goal

pub returns : goal.returns
returns c = search (c.either.ensures, c.memory_of_main.ensures, c.export_of_main.ensures)
