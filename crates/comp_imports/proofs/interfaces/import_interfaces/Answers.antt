use Rattle.std.proofs.Common.{◌≡◌, ◌∙◌, List, ap, refl, sym, subst}
use Rattle.std.specs.List.{flat_map}
use Rattle.wit_data.specs.declared.worlds.World.{World}
use Rattle.wit_data.specs.declared.worlds.WorldItem.{WorldItem}
use Rattle.wit_data.specs.declared.worlds.WorldKey.{WorldKey}
use Rattle.comp_worlds.specs.Encodable.{IsEncodable}
use Rattle.comp_worlds.specs.WorldContents.{items_of}
use Rattle.comp_links.specs.Lists.{interface_entry}
use Rattle.comp_terms.specs.Rules.{Grows, import_marked}
use Rattle.comp_items.proofs.Extending.{extends_then}
use Rattle.comp_imports.specs.Names.{naming_of}
use Rattle.comp_imports.specs.Interfaces.{AreInterfaceUses, IsFoundItem, IsNextInterfaceItem}
use Rattle.root_imports.specs.Interfaces.{FindsInterfaces}
use Rattle.comp_imports.proofs.InterfaceLoop.{InterfacesSoFar, interfaces_start, interfaces_step, interfaces_done, interfaces_known, next_interface}
use Rattle.comp_imports.proofs.interfaces.import_interfaces.Goals as goal

pub loop-key-init : goal.loop-key-init
loop-key-init c =
    let w = c.args.root.now.world.now in
    let old = c.args.root.now.items in
    let items : c.into_iter-key-iterator.result ≡ (items_of w).imports =
    c.into_iter-key-iterator.ensures.into_iter_gives ∙ c.iter-key-items.ensures.rest ∙ ap (λ (x : World). x.imports) c.items.ensures in (
      tt,
      tt,
      refl,
      refl,
      subst (λ (es : List (WorldKey × WorldItem)). InterfacesSoFar (naming_of c.args.names.now) w old old c.new.result es) (sym items) (interfaces_start (naming_of c.args.names.now) w old c.new.result c.new.ensures),
    )

pub import_interface_item-requires-clause-valid : goal.import_interface_item-requires-clause-valid
import_interface_item-requires-clause-valid c = subst (λ r. IsEncodable r.now) (sym c.loop-key.invariant.2) c.requires.valid

pub import_interface_item-requires-clause-uses : goal.import_interface_item-requires-clause-uses
import_interface_item-requires-clause-uses c = subst (λ r. AreInterfaceUses r.now c.in_ok-uses.uses) (sym c.loop-key.invariant.2) c.in_ok-uses.ensures

pub import_interface_item-requires-clause-next : goal.import_interface_item-requires-clause-next
import_interface_item-requires-clause-next c =
    subst (λ r. IsNextInterfaceItem r.now c.loop-key.root.items.defs c.loop-key.root.instances (c.in-Some.key.now, c.in-Some.item.now)) (sym c.loop-key.invariant.2)
    (next_interface (naming_of c.args.names.now) c.args.root.now.world.now c.args.root.now.items c.loop-key.root.items c.loop-key.root.instances (c.in-Some.key.now, c.in-Some.item.now) c.next.new.self c.requires.valid c.requires.first (subst (λ (es : List (WorldKey × WorldItem)). InterfacesSoFar (naming_of c.args.names.now) c.args.root.now.world.now c.args.root.now.items c.loop-key.root.items c.loop-key.root.instances es) c.in-Some.ensures.steps c.loop-key.invariant.4))

pub import_interface_item-requires-clause-finds : goal.import_interface_item-requires-clause-finds
import_interface_item-requires-clause-finds c = subst (λ r. FindsInterfaces r.now c.loop-key.root.items.defs c.loop-key.root.instances) (sym c.loop-key.invariant.2) c.loop-key.invariant.4.finds

pub loop-key-preserved : goal.loop-key-preserved
loop-key-preserved c =
    let w = c.args.root.now.world.now in
    let e : WorldKey × WorldItem = (c.in-Some.key.now, c.in-Some.item.now) in
    let same = c.loop-key.invariant.2 in
    let count = c.loop-key.invariant.3 in
    let of = c.in_ok-import_interface_item.ensures in
    let mid = c.loop-key.root in
    let new = c.import_interface_item.new.root in (
      tt,
      tt,
      of.world ∙ same,
      of.met ∙ count,
      interfaces_step (naming_of c.args.names.now) w c.args.root.now.items mid.items new.items mid.instances new.instances e c.next.new.self (subst (λ (es : List (WorldKey × WorldItem)). InterfacesSoFar (naming_of c.args.names.now) c.args.root.now.world.now c.args.root.now.items c.loop-key.root.items c.loop-key.root.instances es) c.in-Some.ensures.steps c.loop-key.invariant.4) of.extends (subst (λ r. Grows r.now mid.items.defs new.items.defs (flat_map (import_marked (naming_of c.args.names.now) r.now) (interface_entry r.now e))) same of.grows)
          (subst (λ r. FindsInterfaces r.now new.items.defs new.instances) same of.finds) of.still (subst (λ r. IsFoundItem r.now new.instances e) same of.found),
    )

pub returns-clause-grows : goal.returns-clause-grows
returns-clause-grows c = interfaces_done (naming_of c.args.names.now) c.args.root.now.world.now c.args.root.now.items c.loop-key.root.items c.loop-key.root.instances (subst (λ (es : List (WorldKey × WorldItem)). InterfacesSoFar (naming_of c.args.names.now) c.args.root.now.world.now c.args.root.now.items c.loop-key.root.items c.loop-key.root.instances es) c.in-None.ensures.steps.0 c.loop-key.invariant.4)

pub returns-clause-known : goal.returns-clause-known
returns-clause-known c =
    interfaces_known (naming_of c.args.names.now) c.args.root.now.world.now c.args.root.now.items c.loop-key.root.items c.loop-key.root.instances
    (subst (λ (es : List (WorldKey × WorldItem)). InterfacesSoFar (naming_of c.args.names.now) c.args.root.now.world.now c.args.root.now.items c.loop-key.root.items c.loop-key.root.instances es) c.in-None.ensures.steps.0 c.loop-key.invariant.4) c.requires.valid

pub returns-in_err-import_interface_item-clause-extends : goal.returns-in_err-import_interface_item-clause-extends
returns-in_err-import_interface_item-clause-extends c = extends_then c.args.root.now.items c.loop-key.root.items c.import_interface_item.new.root.items c.loop-key.invariant.4.extends c.import_interface_item.ensures.extends
