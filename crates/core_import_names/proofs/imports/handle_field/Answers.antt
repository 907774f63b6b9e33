use Rattle.core_import_names.proofs.imports.handle_field.Goals as goal

pub returns : goal.returns
returns c = search (c.any_of_three.ensures, c.own_resource_after.ensures, c.own_resource_after-2.ensures, c.own_resource_after-3.ensures)
