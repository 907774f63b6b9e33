use Rattle.core_import_names.proofs.imports.world_import.Goals as goal

pub returns : goal.returns
returns c = search (c.either.ensures, c.standard_import.ensures, c.older_if.ensures)
