use Rattle.comp_links.specs.Links.{module_of, export_of}
use Rattle.main_fixup.proofs.Behind.{export_offered, export_serves, export_options}
use Rattle.main_fixup.proofs.lowerings.export_behind.Goals as goal

pub export_of_module-requires-clause-offered : goal.export_of_module-requires-clause-offered
export_of_module-requires-clause-offered c = export_offered c.args.root.now.world.now c.args.shim.now c.requires.stands (export_of (module_of c.args.which.now) c.args.export.now) c.requires.kind

pub returns-clause-serves : goal.returns-clause-serves
returns-clause-serves c =
    export_serves c.args.root.now.world.now c.args.shim.now c.requires.stands (export_of (module_of c.args.which.now) c.args.export.now) c.requires.kind c.export_of_module.new.root.items.defs c.in_ok-aliased.aliased c.in_ok-aliased.ensures.alias

pub returns-clause-offered : goal.returns-clause-offered
returns-clause-offered c = export_options c.args.root.now.world.now c.args.shim.now c.requires.stands (export_of (module_of c.args.which.now) c.args.export.now) c.requires.kind
