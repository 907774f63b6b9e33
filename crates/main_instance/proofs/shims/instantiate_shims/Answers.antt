use Rattle.std.proofs.Common.{◌≡◌, [], ◌∷◌, ◌++◌, List, ap, subst, sym}
use Rattle.comp_builder.specs.Built.{Built}
use Rattle.core_bytes.specs.Modules.{Encodes}
use Rattle.core_bytes.specs.declared.section.Section.{Section}
use Rattle.comp_bytes.specs.declared.def.CoreArgument.{CoreArgument}
use Rattle.comp_bytes.specs.declared.def.Def.{Def}
use Rattle.comp_bytes.specs.declared.def.Def.TheVariants as defs
use Rattle.comp_bytes.specs.declared.def.Item.TheVariants as items
use Rattle.comp_items.specs.Items.{Extends}
use Rattle.comp_worlds.specs.Bases.{cell_type}
use Rattle.comp_worlds.specs.Offered.{shared_memory}
use Rattle.comp_items.proofs.Extending.{extends_then}
use Rattle.world_shims.specs.WorldShims.{shims_of, sections_of_shims}
use Rattle.main_instance.proofs.Instantiating.{extends_by, adds_shims}
use Rattle.main_instance.proofs.shims.instantiate_shims.Goals as goal

pub returns-clause-extends : goal.returns-clause-extends
returns-clause-extends c =
    let old = c.args.root.now.items in
    let mid = c.core_module-2.new.self in
    let new = c.core_instance.new.self in
    let one : Extends old mid = extends_by old mid _ _ c.in_ok-index.ensures.adds.1 in
    let two : Extends mid new = extends_by mid new _ _ c.in_ok-instance.ensures.adds.1 in
    extends_then old mid new one two

pub returns-clause-added : goal.returns-clause-added
returns-clause-added c =
    let w = c.args.root.now.world.now in
    let mid : List Def = c.core_module-2.new.self.defs in
    let new : List Def = c.core_instance.new.self.defs in
    let index = c.in_ok-index.index in
    let ss : List Section = sections_of_shims (shared_memory w) (cell_type w) (shims_of w) c.args.debug_names in
    let encodes : Encodes c.bytes.result.now ss = subst (λ b. Encodes b ss) (sym c.bytes.ensures) (subst (λ (s : List Section). Encodes c.in_ok-module.module s) c.requires.module c.in_ok-module.ensures.ok) in
    let added : new ≡ mid ++ defs.Item (items.CoreInstantiate index []) ∷ [] =
    subst (λ (as' : List CoreArgument). new ≡ mid ++ defs.Item (items.CoreInstantiate index as') ∷ []) c.new.ensures (ap (λ (b : Built). b.defs) c.in_ok-instance.ensures.adds.1) in
    adds_shims w c.args.debug_names c.args.root.now.items.defs mid new c.bytes.result.now index c.in_ok-instance.instance encodes c.requires.room c.requires.any
    c.requires.first c.requires.next c.in_ok-index.ensures.adds.0 (ap (λ (b : Built). b.defs) c.in_ok-index.ensures.adds.1) c.in_ok-index.ensures.at added c.in_ok-instance.ensures.instance
