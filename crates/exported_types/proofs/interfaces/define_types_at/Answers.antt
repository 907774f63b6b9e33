use Rattle.std.proofs.Common.{◌≡◌, ◌∙◌, List, ℕ, sym, subst, Some}
use Rattle.std.specs.Prelude.{OnOk}
use Rattle.std.specs.List.{AllByRecursion}
use Rattle.wit_data.specs.Live.{named_types}
use Rattle.wit_data.specs.declared.ids.TypeId.{TypeId}
use Rattle.comp_links.specs.Lists.{types_in}
use Rattle.comp_terms.specs.Rules.{Grows}
use Rattle.comp_worlds.specs.ExportOrder.{interface_among}
use Rattle.comp_worlds.specs.WorldContents.{exported_item}
use Rattle.interface_needs.specs.RootNeeds.{interface_of_item}
use Rattle.root_imports.specs.Growing.{Grows-none}
use Rattle.root_imports.proofs.Keeping.{kept_none, moved_kept}
use Rattle.core_options.specs.MainOptions.{user_of}
use Rattle.exported_types.specs.ExportedTypes.{resource_marks, AreNextResources, EntersTypes, UsesMet, types_listed, IsDefinedType}
use Rattle.exported_types.proofs.ExportKeys.{no_interface, on_listed, same_item}
use Rattle.exported_types.proofs.interfaces.define_types_at.Goals as goal

pub define_interface-requires-clause-item : goal.define_interface-requires-clause-item
define_interface-requires-clause-item c = same_item (exported_item c.args.root.now.world.now c.args.key.now) c.in-Some.id (sym c.interface_at.ensures ∙ c.in-Some.is)

pub define_interface-requires-clause-resources : goal.define_interface-requires-clause-resources
define_interface-requires-clause-resources c =
    let w = c.args.root.now.world.now in
    let item = same_item (exported_item w c.args.key.now) c.in-Some.id (sym c.interface_at.ensures ∙ c.in-Some.is) in
    subst (λ o. AreNextResources w c.args.root.now.items.defs (user_of c.args.sources.which) (types_in w o)) item c.requires.resources

pub returns-in-Some-clause-grows : goal.returns-in-Some-clause-grows
returns-in-Some-clause-grows c =
    let w = c.args.root.now.world.now in
    let item = same_item (exported_item w c.args.key.now) c.in-Some.id (sym c.interface_at.ensures ∙ c.in-Some.is) in
    subst (λ o. OnOk c.define_interface.result (Grows w c.args.root.now.items.defs c.define_interface.new.root.items.defs (resource_marks w (types_in w o)))) (sym item) c.define_interface.ensures.grows

pub returns-in-Some-clause-defined : goal.returns-in-Some-clause-defined
returns-in-Some-clause-defined c =
    let w = c.args.root.now.world.now in
    let ds = c.define_interface.new.root.items.defs in
    let at : interface_of_item (exported_item w c.args.key.now) ≡ Some c.in-Some.id = sym c.interface_at.ensures ∙ c.in-Some.is in
    subst (λ o. OnOk c.define_interface.result (AllByRecursion (IsDefinedType w ds) (types_listed w o))) (sym at) (on_listed w ds (named_types w.resolve c.in-Some.id) c.define_interface.result c.define_interface.ensures.defined)

pub returns-in-Some-clause-enters : goal.returns-in-Some-clause-enters
returns-in-Some-clause-enters c =
    let w = c.args.root.now.world.now in
    let item = same_item (exported_item w c.args.key.now) c.in-Some.id (sym c.interface_at.ensures ∙ c.in-Some.is) in
    subst (λ o. OnOk c.define_interface.result (EntersTypes c.args.root.now.met c.define_interface.new.root.met (interface_among o))) (sym item) c.define_interface.ensures.enters

pub returns-in-Some-clause-uses : goal.returns-in-Some-clause-uses
returns-in-Some-clause-uses c =
    let w = c.args.root.now.world.now in
    let item = same_item (exported_item w c.args.key.now) c.in-Some.id (sym c.interface_at.ensures ∙ c.in-Some.is) in
    subst (λ o. OnOk c.define_interface.result (UsesMet w c.args.root.now.met (interface_among o))) (sym item) c.define_interface.ensures.uses

pub returns-in-None-clause-moved : goal.returns-in-None-clause-moved
returns-in-None-clause-moved c = moved_kept c.args.root.now.world.now c.args.root.now c.args.root.now (kept_none c.args.root.now.world.now c.args.root.now c.requires.tables)

pub returns-in-None-clause-grows : goal.returns-in-None-clause-grows
returns-in-None-clause-grows c =
    let w = c.args.root.now.world.now in
    let none = no_interface w (exported_item w c.args.key.now) (sym c.interface_at.ensures ∙ c.in-None.is) in
    subst (λ (l : List (List ℕ × TypeId)). Grows w c.args.root.now.items.defs c.args.root.now.items.defs (resource_marks w l)) (sym none.0) (Grows-none w c.args.root.now.items.defs)

pub returns-in-None-clause-defined : goal.returns-in-None-clause-defined
returns-in-None-clause-defined c =
    let w = c.args.root.now.world.now in
    subst (λ o. AllByRecursion (IsDefinedType w c.args.root.now.items.defs) (types_listed w o)) (c.interface_at.ensures) (subst (λ o. AllByRecursion (IsDefinedType w c.args.root.now.items.defs) (types_listed w o)) (sym c.in-None.is) tt)

pub returns-in-None-clause-enters : goal.returns-in-None-clause-enters
returns-in-None-clause-enters c =
    let w = c.args.root.now.world.now in
    let none = no_interface w (exported_item w c.args.key.now) (sym c.interface_at.ensures ∙ c.in-None.is) in
    subst (λ ids. EntersTypes c.args.root.now.met c.args.root.now.met ids) (sym none.1) (record { each = λ other. Rattle.exported_types.proofs.ExportKeys.or_none (Rattle.root_imports.specs.Met.has_types c.args.root.now.met other) })

pub returns-in-None-clause-uses : goal.returns-in-None-clause-uses
returns-in-None-clause-uses c =
    let w = c.args.root.now.world.now in
    let none = no_interface w (exported_item w c.args.key.now) (sym c.interface_at.ensures ∙ c.in-None.is) in
    subst (λ ids. UsesMet w c.args.root.now.met ids) (sym none.1) tt
