use Rattle.comp_imports.specs.Interfaces.{next_place}
use Rattle.comp_imports.proofs.interfaces.add_instance.Given as goal

abbrev pub ghost-interface_type : goal.ghost-interface_type
ghost-interface_type a = next_place a.root.now.world.now a.root.now.items.defs
