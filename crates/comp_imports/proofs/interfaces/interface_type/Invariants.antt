use Rattle.comp_imports.proofs.interfaces.interface_type.Given as goal

abbrev pub ghost-encode_interface_type : goal.ghost-encode_interface_type
ghost-encode_interface_type g a = g.place
