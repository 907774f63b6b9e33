use Rattle.std.proofs.Common.{rules}
use Rattle.main_instance.proofs.OfMain.{made_there, item_grows, item_given}
use Rattle.main_instance.proofs.instances.ImportSources.item.Goals as goal

pub instance_of-instance-requires : goal.instance_of-instance-requires
instance_of-instance-requires c = record { there = made_there c.args.root.now.world.now c.args.root.now.items.defs c.args.self.now.main c.args.self.now.adapters.now c.args.item.now.which c.requires.made }

pub returns-clause-grows : goal.returns-clause-grows
returns-clause-grows c =
    item_grows c.args.root.now.world.now c.requires.sources.valid.valid c.args.root.now.items.defs c.core_export.new.self.defs c.args.self.now.main c.args.self.now.adapters.now c.args.item.now c.instance_of-instance.result c.requires.made (search rules) c.requires.offered (search rules)

pub returns-clause-given : goal.returns-clause-given
returns-clause-given c =
    item_given c.args.root.now.world.now c.core_export.new.self.defs c.requires.made.number c.args.item.now c.in_ok-index.index c.requires.made.of (search rules)
