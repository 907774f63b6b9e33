use Rattle.std.proofs.Common.{◌≡◌, [], List, ap, refl, subst, rules, sym}
use Rattle.std.specs.List.{AllByRecursion}
use Rattle.comp_builder.specs.Built.{Built}
use Rattle.comp_bytes.specs.declared.canon.Intrinsic.TheVariants as intrinsics
use Rattle.comp_bytes.specs.declared.def.Def.TheVariants as defs
use Rattle.comp_bytes.specs.declared.def.Item.TheVariants as items
use Rattle.comp_items.proofs.Extending.{extends_adds}
use Rattle.comp_items.proofs.Remembering.{longer}
use Rattle.comp_items.specs.Items.{Extends}
use Rattle.comp_links.specs.Links.{task_return}
use Rattle.comp_links.specs.Targets.{TargetOption}
use Rattle.comp_terms.specs.Rules.{Grows, IsOptionRight}
use Rattle.comp_terms.specs.Terms as terms
use Rattle.core_options.proofs.OptionTerms.{fit_kept}
use Rattle.core_options.proofs.Returning.{rights_kept, returned_term}
use Rattle.core_options.specs.MainOptions.{NameOptions}
use Rattle.root_imports.proofs.Keeping.{kept_items, kept_typed}
use Rattle.root_imports.specs.Growing.{Grows-by, Grows-then}
use Rattle.root_imports.specs.Keeping.{Root, RootKept}
use Rattle.core_options.proofs.returns.return_from.Goals as goal

pub returns-in_err-returned-clause-kept : goal.returns-in_err-returned-clause-kept
returns-in_err-returned-clause-kept c =
    let e = c.in_err-returned.ensures in
    kept_typed c.args.root.now.world.now c.args.root.now c.result_type.new.self e.world e.met e.instances e.grows e.tables

pub returns-clause-kept : goal.returns-clause-kept
returns-clause-kept c =
    let w = c.args.root.now.world.now in
    let mid : Root = c.result_type.new.self in
    let e = c.in_ok-returned.ensures in
    let typed : RootKept w c.args.root.now mid = kept_typed w c.args.root.now mid e.world e.met e.instances e.grows e.tables in
    let g : Extends mid.items c.built_in.new.self = search (extends_adds, rules) in
    kept_items w c.args.root.now mid (record mid { items = c.built_in.new.self }) typed refl g

pub returns-clause-grows : goal.returns-clause-grows
returns-clause-grows c =
    let w = c.args.root.now.world.now in
    let old = c.args.root.now.items in
    let mid = c.result_type.new.self.items in
    let e = c.in_ok-returned.ensures in
    let i = intrinsics.TaskReturn c.in_ok-returned.returned c.args.options in
    let one : Grows w mid.defs c.built_in.new.self.defs [] =
    Grows-by (defs.Item (items.Intrinsic i)) (ap (λ (b : Built). b.defs) c.in_ok-index.ensures.adds.1) (record { operand = e.known; options = rights_kept (longer e.grows.extends) c.args.options c.requires.options }) in
    Grows-then e.grows.grows one

pub returns-clause-returned : goal.returns-clause-returned
returns-clause-returned c wanted named =
    let w = c.args.root.now.world.now in
    let old = c.args.root.now.items in
    let mid = c.result_type.new.self.items in
    let e = c.in_ok-returned.ensures in
    let later : NameOptions w mid.defs c.args.options wanted = fit_kept w old.defs mid.defs (longer e.grows.extends) c.args.options wanted named in
    returned_term w mid.defs c.built_in.new.self.defs c.args.ty c.in_ok-returned.returned c.in_ok-index.index c.args.options wanted e.typed later c.in_ok-index.ensures.made
