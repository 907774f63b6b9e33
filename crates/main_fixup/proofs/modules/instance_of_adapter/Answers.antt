use Rattle.std.proofs.Common.{◌≡◌, rules, Some, IsSome}
use Rattle.comp_lists.specs.Found.{found}
use Rattle.main_fixup.proofs.Named.{instance_there, instance_made}
use Rattle.main_fixup.proofs.modules.instance_of_adapter.Goals as goal

pub unwrap-requires : goal.unwrap-requires
unwrap-requires c =
    let there : IsSome (found c.args.name.now c.args.sources.now.instances.now.adapters) = instance_there c.args.root.now.world.now c.args.root.now.items.defs c.args.sources.now.instances.now c.args.name.now c.requires.sources.users c.requires.named in
    search rules

pub returns : goal.returns
returns c number m =
    let there : found c.args.name.now c.args.sources.now.instances.now.adapters ≡ Some c.unwrap.result.now = search rules in
    instance_made c.args.root.now.world.now c.args.root.now.items.defs c.args.sources.now.instances.now c.args.name.now c.unwrap.result.now c.requires.sources.users there number m
