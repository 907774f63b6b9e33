use Rattle.std.proofs.Common.{rules}
use Rattle.world_tables.proofs.Exists.{listed_types_exist}
use Rattle.world_tables.proofs.mentions.interface_types.Goals as goal

pub returns-clause-all_present : goal.returns-clause-all_present
returns-clause-all_present c =
    listed_types_exist c.args.resolve.now c.args.id c.add_interface.new.list.items (search rules) c.requires.sound
