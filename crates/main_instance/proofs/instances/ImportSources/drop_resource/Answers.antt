use Rattle.std.proofs.Common.{[], ap, refl}
use Rattle.comp_bytes.specs.declared.canon.Intrinsic.TheVariants as intrinsics
use Rattle.comp_bytes.specs.declared.def.Item.TheVariants as items
use Rattle.comp_bytes.specs.declared.def.Def.TheVariants as defs
use Rattle.comp_builder.specs.Built.{Built}
use Rattle.comp_links.specs.Lists.{resource_of}
use Rattle.comp_links.specs.Targets.{Drop}
use Rattle.comp_terms.specs.Rules.{Grows}
use Rattle.comp_terms.specs.Terms as terms
use Rattle.root_imports.specs.Growing.{Grows-by, Grows-then}
use Rattle.main_instance.proofs.instances.ImportSources.drop_resource.Goals as goal

pub returns-clause-grows : goal.returns-clause-grows
returns-clause-grows c =
    let w = c.args.root.now.world.now in
    let mid = c.dropped_resource.new.self.items.defs in
    let drop : Grows w mid c.drop_resource.new.self.defs [] =
    Grows-by (defs.Item (items.Intrinsic (intrinsics.ResourceDrop c.in_ok-ty.ty))) (ap (λ (b : Built). b.defs) c.in_ok-index.ensures.adds.1) (record { resource = resource_of w c.args.id; is = c.in_ok-ty.ensures.resource }) in
    Grows-then c.in_ok-ty.ensures.grows.grows drop

pub returns-clause-dropped : goal.returns-clause-dropped
returns-clause-dropped c =
    let w = c.args.root.now.world.now in
    record { term = terms.OfResource Drop (resource_of w c.args.id); is = c.in_ok-index.ensures.dropped (resource_of w c.args.id) c.in_ok-ty.ensures.resource; asked = (refl, refl) }
