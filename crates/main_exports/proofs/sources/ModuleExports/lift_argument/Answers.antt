use Rattle.std.proofs.Common.{◌∙◌, ap, Option}
use Rattle.wit_data.specs.declared.worlds.WorldItem.{WorldItem}
use Rattle.comp_roles.specs.declared.metadata.FunctionKey.{FunctionKey}
use Rattle.comp_worlds.specs.WorldContents.{exported_item}
use Rattle.interface_needs.specs.RootNeeds.{interface_of_item}
use Rattle.main_exports.proofs.sources.ModuleExports.lift_argument.Goals as goal

pub lift-requires-clause-of : goal.lift-requires-clause-of
lift-requires-clause-of c =
    ap (λ (k : FunctionKey). interface_of_item (exported_item c.args.root.now.world.now k.key)) c.in_ok-required.ensures ∙ ap (λ (o : Option WorldItem). interface_of_item o) c.requires.item
