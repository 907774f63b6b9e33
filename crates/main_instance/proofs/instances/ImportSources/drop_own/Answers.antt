use Rattle.std.proofs.Common.{ap, refl}
use Rattle.comp_bytes.specs.declared.canon.Intrinsic.TheVariants as intrinsics
use Rattle.comp_bytes.specs.declared.def.Item.TheVariants as items
use Rattle.comp_bytes.specs.declared.def.Def.TheVariants as defs
use Rattle.comp_builder.specs.Built.{Built}
use Rattle.comp_links.specs.Lists.{resource_of}
use Rattle.comp_links.specs.Targets.{Drop}
use Rattle.comp_terms.specs.Terms as terms
use Rattle.root_imports.specs.Growing.{Grows-by}
use Rattle.main_instance.proofs.OwnHandles.{own_met}
use Rattle.main_instance.proofs.instances.ImportSources.drop_own.Goals as goal

pub own_resource-ty-requires-clause-met : goal.own_resource-ty-requires-clause-met
own_resource-ty-requires-clause-met c = own_met c.args.root.now.world.now c.requires.sources.valid c.args.root.now.met c.requires.sources.exports c.args.id c.requires.own

pub returns-clause-grows : goal.returns-clause-grows
returns-clause-grows c =
    let w = c.args.root.now.world.now in
    Grows-by (defs.Item (items.Intrinsic (intrinsics.ResourceDrop c.own_resource-ty.result))) (ap (λ (b : Built). b.defs) c.in_ok-index.ensures.adds.1) (record { resource = resource_of w c.args.id; is = c.own_resource-ty.ensures })

pub returns-clause-dropped : goal.returns-clause-dropped
returns-clause-dropped c =
    let w = c.args.root.now.world.now in
    record { term = terms.OfResource Drop (resource_of w c.args.id); is = c.in_ok-index.ensures.dropped (resource_of w c.args.id) c.own_resource-ty.ensures; asked = (refl, refl) }
