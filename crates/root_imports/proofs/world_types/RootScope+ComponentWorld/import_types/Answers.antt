use Rattle.std.proofs.Common.{◌≡◌, ◌∙◌, ℕ, List, ◌∷◌, refl, sym, ap, subst, map}
use Rattle.wit_data.specs.Sound.{HasEntry}
use Rattle.wit_data.specs.declared.ids.TypeId.{TypeId}
use Rattle.wit_data.specs.declared.worlds.World.{World}
use Rattle.wit_data.specs.declared.worlds.WorldKey.{WorldKey}
use Rattle.wit_data.specs.declared.worlds.WorldItem.{WorldItem}
use Rattle.comp_worlds.specs.WorldContents.{items_of, world_type}
use Rattle.comp_links.specs.Lists.{root_type}
use Rattle.comp_terms.specs.Rules.{Grows, Imported}
use Rattle.comp_items.proofs.Extending.{extends_then}
use Rattle.root_imports.specs.Met.{next_of}
use Rattle.root_imports.specs.RootScopes.{AreTablesRight}
use Rattle.root_imports.specs.Imports.{IsNextType}
use Rattle.root_imports.proofs.Passing.{tables_first}
use Rattle.root_imports.proofs.Looking.{entry_sound}
use Rattle.root_imports.proofs.Importing.{TypesSoFar, types_start, types_step, types_done, types_passed, next_type}
use Rattle.root_imports.proofs.world_types.RootScope+ComponentWorld.import_types.Goals as goal

pub loop-key-init : goal.loop-key-init
loop-key-init c =
    let w = c.args.self.now.world.now in
    let items : c.into_iter-key-iterator.result ≡ (items_of w).imports =
    c.into_iter-key-iterator.ensures.into_iter_gives ∙ c.iter-key-items.ensures.rest ∙ ap (λ (x : World). x.imports) c.items.ensures in (
      tt,
      tt,
      refl,
      tables_first w c.args.self.now.met c.args.self.now.instances c.args.self.now.items.defs c.args.self.now.maps c.requires.tables,
      subst (λ (es : List (WorldKey × WorldItem)). TypesSoFar w c.args.self.now.items c.args.self.now.items 0 es) (sym items) (types_start w c.args.self.now.items 0 c.requires.valid c.requires.first refl),
      refl,
    )

pub import_type_item-requires-clause-present : goal.import_type_item-requires-clause-present
import_type_item-requires-clause-present c =
    let b : TypesSoFar c.args.self.now.world.now c.args.self.now.items c.loop-key.self.items (next_of c.loop-key.self.met.last) ((c.in-Some.key.now, c.in-Some.item.now) ∷ c.next.new.self) =
    subst (λ (es : List (WorldKey × WorldItem)). TypesSoFar c.args.self.now.world.now c.args.self.now.items c.loop-key.self.items (next_of c.loop-key.self.met.last) es) c.in-Some.ensures.steps c.loop-key.invariant.4 in
    subst (λ x. HasEntry x.now.resolve (c.in-Some.key.now, c.in-Some.item.now)) (sym c.loop-key.invariant.2) (entry_sound c.args.self.now.world.now c.requires.valid b.done c.next.new.self (c.in-Some.key.now, c.in-Some.item.now) b.split)

pub import_type_item-requires-clause-next : goal.import_type_item-requires-clause-next
import_type_item-requires-clause-next c =
    subst (λ x. IsNextType x.now (next_of c.loop-key.self.met.last) c.loop-key.self.items.defs (c.in-Some.key.now, c.in-Some.item.now)) (sym c.loop-key.invariant.2)
    (next_type c.args.self.now.world.now c.args.self.now.items c.loop-key.self.items (next_of c.loop-key.self.met.last) (c.in-Some.key.now, c.in-Some.item.now) c.next.new.self (subst (λ (es : List (WorldKey × WorldItem)). TypesSoFar c.args.self.now.world.now c.args.self.now.items c.loop-key.self.items (next_of c.loop-key.self.met.last) es) c.in-Some.ensures.steps c.loop-key.invariant.4))

pub loop-key-preserved : goal.loop-key-preserved
loop-key-preserved c =
    let w = c.args.self.now.world.now in
    let e : WorldKey × WorldItem = (c.in-Some.key.now, c.in-Some.item.now) in
    let same = c.loop-key.invariant.2 in
    let of = c.in_ok-import_type_item.ensures in
    let mid = c.loop-key.self.items in
    let new = c.import_type_item.new.self in (
      tt,
      tt,
      of.world ∙ same,
      subst (λ x. AreTablesRight x.now new.met new.instances new.items.defs new.maps) same of.tables,
      types_step w c.args.self.now.items mid new.items (next_of c.loop-key.self.met.last) (next_of new.met.last) e c.next.new.self (subst (λ (es : List (WorldKey × WorldItem)). TypesSoFar c.args.self.now.world.now c.args.self.now.items c.loop-key.self.items (next_of c.loop-key.self.met.last) es) c.in-Some.ensures.steps c.loop-key.invariant.4) of.extends (subst (λ x. Grows x.now mid.defs new.items.defs (map (λ (t : List ℕ × TypeId). Imported (root_type t.0)) (world_type e))) same of.grows) of.next,
      of.instances ∙ c.loop-key.invariant.5,
    )

pub returns-clause-grows : goal.returns-clause-grows
returns-clause-grows c =
    types_done c.args.self.now.world.now c.args.self.now.items c.loop-key.self.items (next_of c.loop-key.self.met.last)
    (subst (λ (es : List (WorldKey × WorldItem)). TypesSoFar c.args.self.now.world.now c.args.self.now.items c.loop-key.self.items (next_of c.loop-key.self.met.last) es) c.in-None.ensures.steps.0 c.loop-key.invariant.4)

pub returns-clause-passed : goal.returns-clause-passed
returns-clause-passed c =
    types_passed c.args.self.now.world.now c.args.self.now.items c.loop-key.self.items c.loop-key.self.met
    (subst (λ (es : List (WorldKey × WorldItem)). TypesSoFar c.args.self.now.world.now c.args.self.now.items c.loop-key.self.items (next_of c.loop-key.self.met.last) es) c.in-None.ensures.steps.0 c.loop-key.invariant.4)

pub returns-in_err-import_type_item-clause-extends : goal.returns-in_err-import_type_item-clause-extends
returns-in_err-import_type_item-clause-extends c = extends_then c.args.self.now.items c.loop-key.self.items c.import_type_item.new.self.items c.loop-key.invariant.4.extends c.import_type_item.ensures.extends
