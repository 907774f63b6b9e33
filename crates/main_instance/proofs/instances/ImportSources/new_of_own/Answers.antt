use Rattle.std.proofs.Common.{ap, refl}
use Rattle.comp_bytes.specs.declared.canon.Intrinsic.TheVariants as intrinsics
use Rattle.comp_bytes.specs.declared.def.Item.TheVariants as items
use Rattle.comp_bytes.specs.declared.def.Def.TheVariants as defs
use Rattle.comp_builder.specs.Built.{Built}
use Rattle.comp_links.specs.Lists.{resource_of}
use Rattle.comp_links.specs.Targets.{New}
use Rattle.comp_terms.specs.Terms as terms
use Rattle.root_imports.specs.Growing.{Grows-by}
use Rattle.main_instance.proofs.OwnHandles.{own_met, own_resource_at}
use Rattle.main_instance.proofs.instances.ImportSources.new_of_own.Goals as goal

pub own_resource-ty-requires-clause-met : goal.own_resource-ty-requires-clause-met
own_resource-ty-requires-clause-met c = own_met c.args.root.now.world.now c.requires.sources.valid c.args.root.now.met c.requires.sources.exports c.args.id c.requires.own

pub returns-clause-grows : goal.returns-clause-grows
returns-clause-grows c =
    let w = c.args.root.now.world.now in
    Grows-by (defs.Item (items.Intrinsic (intrinsics.ResourceNew c.own_resource-ty.result))) (ap (λ (b : Built). b.defs) c.in_ok-index.ensures.adds.1) (own_resource_at w c.requires.sources.valid c.args.id c.requires.own c.args.root.now.items.defs c.own_resource-ty.result c.own_resource-ty.ensures)

pub returns-clause-made : goal.returns-clause-made
returns-clause-made c =
    let w = c.args.root.now.world.now in
    record { term = terms.OfResource New (resource_of w c.args.id); is = c.in_ok-index.ensures.made (resource_of w c.args.id) c.own_resource-ty.ensures; asked = (refl, refl) }
