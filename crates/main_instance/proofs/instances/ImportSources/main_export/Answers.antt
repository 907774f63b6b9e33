use Rattle.std.proofs.Common.{rules}
use Rattle.comp_terms.specs.Terms.{IsInstanceOf}
use Rattle.main_instance.proofs.OfMain.{export_given, export_grows, instance_known, instance_there}
use Rattle.main_instance.proofs.instances.ImportSources.main_export.Goals as goal

pub unwrap-instance-requires : goal.unwrap-instance-requires
unwrap-instance-requires c = instance_there c.args.root.now.items.defs c.args.self.now.main c.requires.behind

made : (c : goal.In_ok-index) → IsInstanceOf c.args.root.now.items.defs c.unwrap-instance.result 0
made c = instance_known c.args.root.now.items.defs c.args.self.now.main c.unwrap-instance.result (search rules) c.requires.behind

pub returns-clause-grows : goal.returns-clause-grows
returns-clause-grows c =
    export_grows c.args.root.now.world.now c.args.root.now.items.defs c.core_export.new.self.defs c.args.kind c.unwrap-instance.result c.args.name.now c.requires.offered (made c) (search rules)

pub returns-clause-given : goal.returns-clause-given
returns-clause-given c =
    export_given c.args.root.now.world.now c.core_export.new.self.defs c.args.kind c.in_ok-index.index c.args.name.now (search rules)
