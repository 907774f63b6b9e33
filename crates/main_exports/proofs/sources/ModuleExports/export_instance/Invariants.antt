use Rattle.comp_links.specs.Lists.{resource_of}
use Rattle.main_exports.proofs.sources.ModuleExports.export_instance.Given as goal

abbrev pub ghost-interface_component : goal.ghost-interface_component
ghost-interface_component a = resource_of a.world.now
