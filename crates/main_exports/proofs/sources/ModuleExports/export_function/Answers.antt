use Rattle.std.proofs.Common.{◌∙◌, [], ◌∷◌, Option, ap, sym, subst}
use Rattle.std.specs.List.{slice_get}
use Rattle.wit_data.specs.Sound.{HasKey}
use Rattle.comp_bytes.specs.declared.space.Sort.TheVariants as sorts
use Rattle.comp_imports.specs.Names.{naming_of}
use Rattle.comp_links.specs.Naming.{name_of}
use Rattle.comp_terms.specs.Exports.{IsRequiredLift, ExportsFunction}
use Rattle.comp_terms.specs.Rules.{Exported, Grows}
use Rattle.root_imports.specs.Growing.{Grows-then}
use Rattle.wit_data.specs.declared.worlds.WorldItem.{WorldItem}
use Rattle.wit_data.specs.declared.worlds.WorldItem.TheVariants as items
use Rattle.comp_roles.specs.declared.metadata.FunctionKey.{FunctionKey}
use Rattle.comp_worlds.specs.WorldContents.{exported_item}
use Rattle.interface_needs.specs.RootNeeds.{interface_of_item}
use Rattle.comp_links.specs.Lists.{required_keys}
use Rattle.main_exports.specs.Exports.{exporter, function_of, key_for, IsModuleFunction}
use Rattle.main_exports.proofs.Exporting.{exports_same, function_required, key_sound, marked_as}
use Rattle.root_imports.proofs.Keeping.{kept_items}
use Rattle.main_exports.proofs.sources.ModuleExports.export_function.Goals as goal

pub lift-requires-clause-required : goal.lift-requires-clause-required
lift-requires-clause-required c =
    let w = c.args.root.now.world.now in
    let f = c.args.function.now in
    let e = c.args.self.now in
    subst (λ k. IsModuleFunction w (exporter e) k f) (sym c.in_ok-required.ensures)
    (function_required w c.requires.exports.valid (exporter e) e.user.found.now c.requires.exports.user.named c.args.key.now f c.requires.item c.requires.required)

pub lift-requires-clause-of : goal.lift-requires-clause-of
lift-requires-clause-of c =
    ap (λ (k : FunctionKey). interface_of_item (exported_item c.args.root.now.world.now k.key)) c.in_ok-required.ensures ∙ ap (λ (o : Option WorldItem). interface_of_item o) c.requires.item

pub export-requires-clause-present : goal.export-requires-clause-present
export-requires-clause-present c =
    let w = c.args.root.now.world.now in
    subst (λ x. HasKey x.now.resolve c.args.key.now) (sym c.in_ok-lifted.ensures.kept.world) (key_sound w c.requires.exports.valid c.args.self.now.user.found.now c.args.key.now c.requires.required)

pub export-requires-clause-right : goal.export-requires-clause-right
export-requires-clause-right c =
    let w = c.args.root.now.world.now in
    let of = exporter c.args.self.now in
    let ds = c.lift.new.root.items.defs in
    let index = c.in_ok-lifted.lifted in
    let lifted = c.in_ok-lifted.ensures.lifted.lifted in
    let right : ExportsFunction w ds index = record {
      required = key_for of c.args.key.now;
      function = c.args.function.now;
      next = ap (slice_get (required_keys w)) (exports_same c.in_ok-lifted.ensures.grows) ∙ c.requires.next;
      item = c.requires.item;
      lifted = subst (λ k. IsRequiredLift w ds (function_of of k) index) c.in_ok-required.ensures lifted;
    } in
    subst (λ x. ExportsFunction x.now ds index) (sym c.in_ok-lifted.ensures.kept.world) right

pub returns-in_err-export-clause-kept : goal.returns-in_err-export-clause-kept
returns-in_err-export-clause-kept c =
    kept_items c.args.root.now.world.now c.args.root.now c.lift.new.root c.export.new.root c.in_ok-lifted.ensures.kept c.in_err-export.ensures.same c.in_err-export.ensures.extends

pub returns-clause-kept : goal.returns-clause-kept
returns-clause-kept c = kept_items c.args.root.now.world.now c.args.root.now c.lift.new.root c.export.new.root c.in_ok-lifted.ensures.kept c.in_ok-export.ensures.same c.in_ok-export.ensures.extends

pub returns-clause-grows : goal.returns-clause-grows
returns-clause-grows c =
    let w = c.args.root.now.world.now in
    let n = naming_of c.args.self.now.names in
    let key = c.args.key.now in
    let mid = c.lift.new.root.items.defs in
    let new = c.export.new.root.items.defs in
    let last : Grows w mid new (Exported (record { name = name_of n w.resolve key; sort = sorts.Func }) ∷ []) =
    subst (λ x. Grows x.now mid new (Exported (record { name = name_of n x.now.resolve key; sort = sorts.Func }) ∷ [])) c.in_ok-lifted.ensures.kept.world c.in_ok-export.ensures.grows in
    subst (λ m. Grows w c.args.root.now.items.defs new m) (marked_as n w (exporter c.args.self.now) key (items.Function c.args.function.now) c.requires.item) (Grows-then c.in_ok-lifted.ensures.grows last)
