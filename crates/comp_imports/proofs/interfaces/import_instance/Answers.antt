use Rattle.std.proofs.Common.{subst, sym}
use Rattle.comp_links.specs.Lists.{ImportedInterface}
use Rattle.comp_terms.specs.Rules.{Grows, import_marked}
use Rattle.comp_items.proofs.Extending.{extends_then}
use Rattle.comp_imports.specs.Names.{naming_of}
use Rattle.root_imports.specs.Growing.{Grows-then}
use Rattle.comp_imports.specs.Interfaces.{IsNextInterface}
use Rattle.comp_imports.proofs.InstanceAdded.{next_kept}
use Rattle.comp_imports.proofs.interfaces.import_instance.Goals as goal

pub add_instance-requires-clause-next : goal.add_instance-requires-clause-next
add_instance-requires-clause-next c =
    let new = c.outer_types.new.root.items.defs in
    subst (λ r. IsNextInterface r.world.now new r.instances c.args.key.now c.args.interface) (sym c.in_ok-outer.ensures.same)
    (next_kept c.args.root.now.world.now c.args.root.now.items.defs new c.args.root.now.instances c.args.key.now c.args.interface c.in_ok-outer.ensures.grows c.requires.next)

pub returns-clause-grows : goal.returns-clause-grows
returns-clause-grows c =
    let w = c.args.root.now.world.now in
    let mid = c.outer_types.new.root.items.defs in
    let new = c.add_instance.new.root.items.defs in
    let added : Grows w mid new (import_marked (naming_of c.args.names.now) w (ImportedInterface c.args.key.now c.args.interface)) =
    subst (λ r. Grows r.world.now mid new (import_marked (naming_of c.args.names.now) r.world.now (ImportedInterface c.args.key.now c.args.interface))) c.in_ok-outer.ensures.same c.in_ok-instance.ensures.grows in
    Grows-then c.in_ok-outer.ensures.grows added

pub returns-in_err-instance-clause-extends : goal.returns-in_err-instance-clause-extends
returns-in_err-instance-clause-extends c = extends_then c.args.root.now.items c.outer_types.new.root.items c.add_instance.new.root.items c.in_ok-outer.ensures.extends c.add_instance.ensures.extends

pub returns-clause-extends : goal.returns-clause-extends
returns-clause-extends c = extends_then c.args.root.now.items c.outer_types.new.root.items c.add_instance.new.root.items c.in_ok-outer.ensures.extends c.in_ok-instance.ensures.extends
