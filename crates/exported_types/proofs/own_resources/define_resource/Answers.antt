use Rattle.std.proofs.Common.{[], ◌∷◌, List, ap, subst, sym}
use Rattle.comp_builder.specs.Built.{Built}
use Rattle.comp_bytes.specs.declared.space.Space.TheVariants as spaces
use Rattle.comp_bytes.specs.declared.def.Def.{Def}
use Rattle.comp_items.specs.Items.{Extends}
use Rattle.comp_items.proofs.Extending.{extends_adds}
use Rattle.comp_terms.specs.Rules.{Grows, ResourceDefined}
use Rattle.comp_trees.specs.DefinedScopes.{Denotes}
use Rattle.comp_inventories.specs.Inventories.{scope_of}
use Rattle.comp_links.specs.Lists.{type_of_world}
use Rattle.root_imports.specs.Growing.{longer_by, Grows-then}
use Rattle.root_imports.specs.Keeping.{Root, RootKept}
use Rattle.root_imports.specs.RootScopes.{RootGrows}
use Rattle.core_options.specs.MainOptions.{user_of}
use Rattle.exported_types.proofs.Defining.{defined-kept}
use Rattle.exported_types.proofs.Recording.{defined, defined_tables, resource_denotes, resource_grows, resource_of, shimmed}
use Rattle.exported_types.proofs.own_resources.define_resource.Goals as goal

pub returns-in_err-destructor-clause-kept : goal.returns-in_err-destructor-clause-kept
returns-in_err-destructor-clause-kept c = shimmed c.args.root.now c.destructor_shim.new.root c.requires.tables c.in_err-destructor.ensures.same c.in_err-destructor.ensures.extends

pub returns-in_err-index-clause-kept : goal.returns-in_err-index-clause-kept
returns-in_err-index-clause-kept c =
    let mid : Root = c.destructor_shim.new.root in
    let new : Built = c.resource_type.new.self in
    let k : RootKept c.args.root.now.world.now c.args.root.now mid = shimmed c.args.root.now mid c.requires.tables c.in_ok-destructor.ensures.same c.in_ok-destructor.ensures.extends in
    let g : Extends mid.items new = extends_adds mid.items new c.resource_type.result spaces.Type (resource_of c.in_ok-destructor.destructor) _ c.resource_type.ensures.adds in
    defined c.args.root.now mid new k g

pub record_resource-requires-clause-tables : goal.record_resource-requires-clause-tables
record_resource-requires-clause-tables c =
    let mid : Root = c.destructor_shim.new.root in
    let new : Built = c.resource_type.new.self in
    let k : RootKept c.args.root.now.world.now c.args.root.now mid = shimmed c.args.root.now mid c.requires.tables c.in_ok-destructor.ensures.same c.in_ok-destructor.ensures.extends in
    let g : Extends mid.items new = extends_adds mid.items new c.resource_type.result spaces.Type (resource_of c.in_ok-destructor.destructor) _ c.resource_type.ensures.adds in
    defined_tables c.args.root.now mid new k g

pub record_resource-requires-clause-denotes : goal.record_resource-requires-clause-denotes
record_resource-requires-clause-denotes c =
    let w = c.args.root.now.world.now in
    let mid : Root = c.destructor_shim.new.root in
    let new : List Def = c.resource_type.new.self.defs in
    let k : RootKept w c.args.root.now mid = shimmed c.args.root.now mid c.requires.tables c.in_ok-destructor.ensures.same c.in_ok-destructor.ensures.extends in
    let d = resource_denotes w c.requires.valid (user_of c.args.sources.which) c.args.id c.requires.present c.requires.resource c.args.root.now.items.defs mid.items.defs new c.in_ok-destructor.ensures.grows c.requires.next c.in_ok-index.index c.in_ok-index.ensures.defined in
    subst (λ x. Denotes (scope_of new) c.in_ok-index.index (type_of_world x.now c.args.id)) (sym k.world) d

pub returns-clause-grows : goal.returns-clause-grows
returns-clause-grows c =
    let w = c.args.root.now.world.now in
    let old : List Def = c.args.root.now.items.defs in
    let mid : Root = c.destructor_shim.new.root in
    let new : Built = c.resource_type.new.self in
    let end : Root = c.record_resource.new.self in
    let k : RootKept w c.args.root.now mid = shimmed c.args.root.now mid c.requires.tables c.in_ok-destructor.ensures.same c.in_ok-destructor.ensures.extends in
    let first : Grows w old new.defs (ResourceDefined ∷ []) = resource_grows w (user_of c.args.sources.which) c.args.id old mid.items.defs new.defs c.in_ok-destructor.destructor c.in_ok-destructor.ensures.grows c.requires.next c.in_ok-destructor.ensures.right (ap (λ (b : Built). b.defs) c.in_ok-index.ensures.adds.1) in
    let later : RootGrows w new end.items = subst (λ x. RootGrows x.now new end.items) k.world c.in_ok-record_resource.ensures.grows in
    Grows-then first later.grows

pub returns-clause-defined : goal.returns-clause-defined
returns-clause-defined c =
    let w = c.args.root.now.world.now in
    let mid : Root = c.destructor_shim.new.root in
    let new : Built = c.resource_type.new.self in
    let end : Root = c.record_resource.new.self in
    let k : RootKept w c.args.root.now mid = shimmed c.args.root.now mid c.requires.tables c.in_ok-destructor.ensures.same c.in_ok-destructor.ensures.extends in
    let d = resource_denotes w c.requires.valid (user_of c.args.sources.which) c.args.id c.requires.present c.requires.resource c.args.root.now.items.defs mid.items.defs new.defs c.in_ok-destructor.ensures.grows c.requires.next c.in_ok-index.index c.in_ok-index.ensures.defined in
    let later : RootGrows w new end.items = subst (λ x. RootGrows x.now new end.items) k.world c.in_ok-record_resource.ensures.grows in
    defined-kept (longer_by later.grows) c.args.id (record { index = c.in_ok-index.index; denotes = d })
