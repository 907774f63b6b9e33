use Rattle.std.proofs.Common.{rules, ◌≡◌, false}
use Rattle.core_options.specs.MainOptions.{user_of}
use Rattle.exported_types.specs.ExportedTypes.{is_own}
use Rattle.exported_types.proofs.OwnTypes.{supplied_next}
use Rattle.exported_types.proofs.interfaces.define_type.Goals as goal

pub exported_type-requires-clause-supplied : goal.exported_type-requires-clause-supplied
exported_type-requires-clause-supplied c =
    let w = c.args.root.now.world.now in
    let other : is_own w c.args.id ≡ false = search rules in
    supplied_next w c.requires.valid c.args.root.now.met c.args.root.now.items.defs (user_of c.args.sources.which) c.args.interface c.args.id c.requires.next other
