use Rattle.core_import_names.proofs.imports.standard_exported.Goals as goal

pub returns : goal.returns
returns c = search (c.any_of_three.ensures, c.own_resource_before.ensures, c.own_resource_before-2.ensures, c.own_resource_before-3.ensures)
