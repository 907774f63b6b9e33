use Rattle.root_imports.proofs.ListedTypes.{export_there}
use Rattle.exported_types.proofs.export_order.foreign_types_of.Goals as goal

pub interface_of-interface-requires-clause-present : goal.interface_of-interface-requires-clause-present
interface_of-interface-requires-clause-present c = export_there c.args.world.now c.requires.valid c.args.id c.requires.exported
