use Rattle.root_imports.proofs.ListedTypes.{export_there}
use Rattle.root_imports.proofs.exported_types.exported_types_of.Goals as goal

pub types_of-requires : goal.types_of-requires
types_of-requires c = export_there c.args.world.now c.requires.valid c.args.interface c.requires.exported
