use Rattle.std.proofs.Common.{◌≡◌, ◌∙◌, Some, ap, refl, rules, sym}
use Rattle.built_ins.specs.BuiltIns.{plain_intrinsic}
use Rattle.comp_builder.specs.Built.{Built}
use Rattle.comp_bytes.specs.declared.def.Def.TheVariants as defs
use Rattle.comp_bytes.specs.declared.def.Item.TheVariants as items
use Rattle.comp_items.proofs.Extending.{extends_adds}
use Rattle.comp_items.specs.Items.{Extends}
use Rattle.core_options.specs.MainOptions.{user_of}
use Rattle.root_imports.proofs.Keeping.{kept_items, kept_none}
use Rattle.root_imports.specs.Growing.{Grows-by}
use Rattle.root_imports.specs.Keeping.{Root}
use Rattle.main_instance.proofs.BuiltIns.{built_in_given, has_type, plain_right, plain_made}
use Rattle.main_instance.proofs.instances.ImportSources.materialize_import.Goals as goal

pub returns-in_ok-index-in-Some-clause-kept : goal.returns-in_ok-index-in-Some-clause-kept
returns-in_ok-index-in-Some-clause-kept c =
    let w = c.args.root.now.world.now in
    let old : Root = c.args.root.now in
    let g : Extends old.items c.built_in.new.self = search (extends_adds, rules) in
    kept_items w old old (record old { items = c.built_in.new.self }) (kept_none w old c.requires.sources.tables) refl g

pub returns-in_ok-index-in-Some-clause-grows : goal.returns-in_ok-index-in-Some-clause-grows
returns-in_ok-index-in-Some-clause-grows c =
    let w = c.args.root.now.world.now in
    let i = c.in-Some.intrinsic in
    let plain = has_type w.can_use_context_slot_1 c.args.import.now i (sym c.plain_intrinsic.ensures ∙ c.in-Some.is) in
    Grows-by (defs.Item (items.Intrinsic i)) (ap (λ (b : Built). b.defs) c.in_ok-index-in-Some.ensures.adds.1) (plain_right c.args.root.now.items.defs i plain)

pub returns-in_ok-index-in-Some-clause-made : goal.returns-in_ok-index-in-Some-clause-made
returns-in_ok-index-in-Some-clause-made c =
    let w = c.args.root.now.world.now in
    let i = c.in-Some.intrinsic in
    let named : plain_intrinsic w.can_use_context_slot_1 c.args.import.now ≡ Some i = sym c.plain_intrinsic.ensures ∙ c.in-Some.is in
    built_in_given w (user_of c.args.self.now.user.which) c.built_in.new.self.defs c.in_ok-index-in-Some.index c.args.import.now i named
    (plain_made c.args.root.now.items.defs c.built_in.new.self.defs c.in_ok-index-in-Some.index i (has_type w.can_use_context_slot_1 c.args.import.now i named) c.in_ok-index-in-Some.ensures.made)
