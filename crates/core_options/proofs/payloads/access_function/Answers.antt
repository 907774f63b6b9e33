use Rattle.std.proofs.Common.{◌≡◌, ◌∙◌, ◌++◌, [], ◌∷◌, ap, refl, subst, rules}
use Rattle.comp_builder.specs.Built.{Built}
use Rattle.comp_bytes.specs.declared.canon.Intrinsic.{Intrinsic}
use Rattle.comp_bytes.specs.declared.def.Def.TheVariants as defs
use Rattle.comp_bytes.specs.declared.def.Item.TheVariants as items
use Rattle.comp_inventories.specs.Inventories.{scope_of}
use Rattle.comp_items.proofs.Extending.{extends_adds}
use Rattle.comp_items.proofs.Remembering.{longer}
use Rattle.comp_items.specs.Items.{Extends}
use Rattle.comp_terms.specs.Rules.{IsIntrinsicRight}
use Rattle.core_options.proofs.MemoryFunctions.{Made}
use Rattle.core_options.proofs.OptionTerms.{fit_kept}
use Rattle.core_options.proofs.PayloadFunctions.{access_right, access_term}
use Rattle.core_options.proofs.Returning.{rights_kept}
use Rattle.core_options.specs.MainOptions.{NameOptions, access_intrinsic}
use Rattle.root_imports.proofs.Keeping.{kept_items, kept_typed}
use Rattle.root_imports.proofs.PayloadTypes.{payload_known}
use Rattle.root_imports.specs.Growing.{Grows-by, Grows-then}
use Rattle.root_imports.specs.Keeping.{Root, RootKept}
use Rattle.core_options.proofs.payloads.access_function.Goals as goal

pub returns-in_err-ty-clause-kept : goal.returns-in_err-ty-clause-kept
returns-in_err-ty-clause-kept c =
    let e = c.in_err-ty.ensures in
    kept_typed c.args.root.now.world.now c.args.root.now c.payload_type.new.self e.world e.met e.instances e.grows e.tables

pub returns-clause-kept : goal.returns-clause-kept
returns-clause-kept c =
    let w = c.args.root.now.world.now in
    let mid : Root = c.payload_type.new.self in
    let e = c.in_ok-ty.ensures in
    let typed : RootKept w c.args.root.now mid = kept_typed w c.args.root.now mid e.world e.met e.instances e.grows e.tables in
    let g : Extends mid.items c.built_in.new.self = search (extends_adds, rules) in
    kept_items w c.args.root.now mid (record mid { items = c.built_in.new.self }) typed refl g

pub returns-clause-grows : goal.returns-clause-grows
returns-clause-grows c =
    let w = c.args.root.now.world.now in
    let mid = c.payload_type.new.self.items in
    let e = c.in_ok-ty.ensures in
    let i = access_intrinsic c.args.kind c.in_ok-ty.ty c.args.options in
    let right : IsIntrinsicRight mid.defs i =
    access_right mid.defs c.args.kind c.in_ok-ty.ty c.args.options (payload_known w c.args.info.now.ty (scope_of mid.defs) c.in_ok-ty.ty e.denotes) (rights_kept (longer e.grows.extends) c.args.options c.requires.options) in
    let added : c.built_in.new.self.defs ≡ mid.defs ++ defs.Item (items.Intrinsic i) ∷ [] =
    ap (λ (b : Built). b.defs) c.in_ok-index.ensures.adds.1 ∙ ap (λ (x : Intrinsic). mid.defs ++ defs.Item (items.Intrinsic x) ∷ []) c.access_of_type-intrinsic.ensures in
    Grows-then e.grows.grows (Grows-by (defs.Item (items.Intrinsic i)) added right)

pub returns-clause-made : goal.returns-clause-made
returns-clause-made c wanted named =
    let w = c.args.root.now.world.now in
    let old = c.args.root.now.items in
    let mid = c.payload_type.new.self.items in
    let new = c.built_in.new.self in
    let e = c.in_ok-ty.ensures in
    let later : NameOptions w mid.defs c.args.options wanted = fit_kept w old.defs mid.defs (longer e.grows.extends) c.args.options wanted named in
    let made : Made mid.defs new.defs c.in_ok-index.index (access_intrinsic c.args.kind c.in_ok-ty.ty c.args.options) =
    subst (λ (i : Intrinsic). Made mid.defs new.defs c.in_ok-index.index i) c.access_of_type-intrinsic.ensures c.in_ok-index.ensures.made in
    access_term w mid.defs new.defs c.args.kind c.args.info.now.ty c.in_ok-ty.ty c.in_ok-index.index c.args.options wanted e.denotes later made
