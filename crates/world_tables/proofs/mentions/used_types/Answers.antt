use Rattle.std.proofs.Common.{map}
use Rattle.comp_roles.specs.Borrowed.{core_import}
use Rattle.world_tables.proofs.Exists.{used_listed_exist}
use Rattle.world_tables.proofs.mentions.used_types.Goals as goal

pub returns-clause-all_present : goal.returns-clause-all_present
returns-clause-all_present c =
    used_listed_exist c.args.resolve.now c.args.world.now (map core_import c.args.imports.now) c.in_ok-list.list.items c.in_ok-list.ensures c.requires.sound c.requires.present c.requires.roles
