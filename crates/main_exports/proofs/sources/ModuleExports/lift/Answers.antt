use Rattle.std.proofs.Common.{◌≡◌, ◌∙◌, [], refl, ap, sym, subst, rules}
use Rattle.comp_builder.specs.Built.{Built}
use Rattle.comp_links.specs.Links.{lift_options}
use Rattle.comp_terms.specs.Planned.{type_of_function}
use Rattle.comp_terms.specs.Rules.{Grows}
use Rattle.comp_terms.specs.Terms.{IsFunctionType}
use Rattle.comp_items.proofs.Kept.{function_type-kept}
use Rattle.comp_items.proofs.Remembering.{longer}
use Rattle.comp_items.proofs.Extending.{extends_same}
use Rattle.comp_items.specs.Items.{Extends}
use Rattle.root_imports.specs.Growing.{Grows-then}
use Rattle.core_options.specs.MainOptions.{NameOptions}
use Rattle.core_options.proofs.OptionTerms.{alias_of_kept}
use Rattle.root_imports.specs.Keeping.{Root, RootKept}
use Rattle.main_exports.specs.Exports.{exporter, AreExports, IsEntryOf, function_of}
use Rattle.main_exports.proofs.Lifting.{AddsLift, adds_lift, needed_function}
use Rattle.root_imports.proofs.Keeping.{kept_typed, kept_items}
use Rattle.main_exports.proofs.Growth.{exports-kept}
use Rattle.main_exports.proofs.sources.ModuleExports.lift.Goals as goal

pub function_type-requires-clause-needed : goal.function_type-requires-clause-needed
function_type-requires-clause-needed c = needed_function c.args.root.now.world.now (exporter c.args.self.now) c.args.interface c.args.required.now c.args.function.now c.requires.required c.requires.of

pub core_entry-requires-clause-exports : goal.core_entry-requires-clause-exports
core_entry-requires-clause-exports c =
    let w = c.args.root.now.world.now in
    let old : Root = c.args.root.now in
    let typed : Root = c.function_type.new.self in
    let e = c.in_ok-ty.ensures in
    let kept : RootKept w old typed = kept_typed w old typed e.world e.met e.instances e.grows e.tables in
    subst (λ x. AreExports x.now c.args.self.now typed) (sym e.world) (exports-kept w c.args.self.now old typed kept c.requires.exports)

pub returns-in_err-core-clause-kept : goal.returns-in_err-core-clause-kept
returns-in_err-core-clause-kept c =
    let w = c.args.root.now.world.now in
    let old : Root = c.args.root.now in
    let typed : Root = c.function_type.new.self in
    let e = c.in_ok-ty.ensures in
    kept_items w old typed c.core_entry.new.root (kept_typed w old typed e.world e.met e.instances e.grows e.tables) c.in_err-core.ensures.same c.in_err-core.ensures.extends

pub lift_options-requires-clause-exports : goal.lift_options-requires-clause-exports
lift_options-requires-clause-exports c =
    let w = c.args.root.now.world.now in
    let old : Root = c.args.root.now in
    let typed : Root = c.function_type.new.self in
    let entered : Root = c.core_entry.new.root in
    let e = c.in_ok-ty.ensures in
    let kept : RootKept w old entered = kept_items w old typed entered (kept_typed w old typed e.world e.met e.instances e.grows e.tables) c.in_ok-core.ensures.same c.in_ok-core.ensures.extends in
    subst (λ x. AreExports x.now c.args.self.now entered) (sym kept.world) (exports-kept w c.args.self.now old entered kept c.requires.exports)

pub returns-in_err-options-clause-kept : goal.returns-in_err-options-clause-kept
returns-in_err-options-clause-kept c =
    let w = c.args.root.now.world.now in
    let old : Root = c.args.root.now in
    let typed : Root = c.function_type.new.self in
    let entered : Root = c.core_entry.new.root in
    let e = c.in_ok-ty.ensures in
    let kept : RootKept w old entered = kept_items w old typed entered (kept_typed w old typed e.world e.met e.instances e.grows e.tables) c.in_ok-core.ensures.same c.in_ok-core.ensures.extends in
    kept_items w old entered c.lift_options.new.root kept c.in_err-options.ensures.same c.in_err-options.ensures.extends

pub returns-in_err-index-clause-kept : goal.returns-in_err-index-clause-kept
returns-in_err-index-clause-kept c =
    let w = c.args.root.now.world.now in
    let old : Root = c.args.root.now in
    let typed : Root = c.function_type.new.self in
    let entered : Root = c.core_entry.new.root in
    let named : Root = c.lift_options.new.root in
    let e = c.in_ok-ty.ensures in
    let kept : RootKept w old entered = kept_items w old typed entered (kept_typed w old typed e.world e.met e.instances e.grows e.tables) c.in_ok-core.ensures.same c.in_ok-core.ensures.extends in
    let listed : RootKept w old named = kept_items w old entered named kept c.in_ok-options.ensures.same c.in_ok-options.ensures.extends in
    kept_items w old named (record named { items = c.lift_function.new.self }) listed refl (extends_same named.items c.lift_function.new.self c.in_err-index.ensures.adds.0)

pub returns-clause-kept : goal.returns-clause-kept
returns-clause-kept c =
    let w = c.args.root.now.world.now in
    let old : Root = c.args.root.now in
    let typed : Root = c.function_type.new.self in
    let entered : Root = c.core_entry.new.root in
    let named : Root = c.lift_options.new.root in
    let e = c.in_ok-ty.ensures in
    let kept : RootKept w old entered = kept_items w old typed entered (kept_typed w old typed e.world e.met e.instances e.grows e.tables) c.in_ok-core.ensures.same c.in_ok-core.ensures.extends in
    let listed : RootKept w old named = kept_items w old entered named kept c.in_ok-options.ensures.same c.in_ok-options.ensures.extends in
    let last : Extends named.items c.lift_function.new.self = search rules in
    kept_items w old named (record named { items = c.lift_function.new.self }) listed refl last

adds : (c : goal.In_ok-index) → AddsLift c.args.root.now.world.now (exporter c.args.self.now) c.lift_options.new.root.items.defs c.lift_function.new.self.defs c.args.required.now c.args.function.now c.in_ok-index.index
adds c =
    let w = c.args.root.now.world.now in
    let of = exporter c.args.self.now in
    let f = c.args.required.now in
    let typed : Root = c.function_type.new.self in
    let entered : Root = c.core_entry.new.root in
    let named : Root = c.lift_options.new.root in
    let world : entered.world ≡ c.args.root.now.world = ap (λ (r : Root). r.world) c.in_ok-core.ensures.same ∙ c.in_ok-ty.ensures.world in
    let fit : NameOptions w named.items.defs c.in_ok-options.options (lift_options w (function_of of f)) =
    subst (λ x. NameOptions x.now named.items.defs c.in_ok-options.options (lift_options x.now (function_of of f))) world c.in_ok-options.ensures.named in
    let entry : IsEntryOf w of entered.items.defs f c.in_ok-core.core = subst (λ x. IsEntryOf x.now of entered.items.defs f c.in_ok-core.core) c.in_ok-ty.ensures.world c.in_ok-core.ensures.entry in
    let kept_entry : IsEntryOf w of named.items.defs f c.in_ok-core.core = record { name = entry.name; said = entry.said; alias = alias_of_kept (longer c.in_ok-options.ensures.extends) entry.alias } in
    let type : IsFunctionType named.items.defs c.in_ok-ty.ty (type_of_function w c.args.function.now) =
    function_type-kept (longer c.in_ok-options.ensures.extends) (function_type-kept (longer c.in_ok-core.ensures.extends) c.in_ok-ty.ensures.typed) in
    adds_lift w of named.items.defs c.lift_function.new.self.defs c.in_ok-core.core c.in_ok-ty.ty c.in_ok-index.index c.in_ok-options.options f c.args.function.now fit kept_entry type c.requires.required.exported
    (ap (λ (b : Built). b.defs) c.in_ok-index.ensures.adds.1) c.in_ok-index.ensures.lifted c.in_ok-index.ensures.typed

pub returns-clause-grows : goal.returns-clause-grows
returns-clause-grows c =
    let w = c.args.root.now.world.now in
    let typed : Root = c.function_type.new.self in
    let entered : Root = c.core_entry.new.root in
    let named : Root = c.lift_options.new.root in
    let world : entered.world ≡ c.args.root.now.world = ap (λ (r : Root). r.world) c.in_ok-core.ensures.same ∙ c.in_ok-ty.ensures.world in
    let second : Grows w typed.items.defs entered.items.defs [] = subst (λ x. Grows x.now typed.items.defs entered.items.defs []) c.in_ok-ty.ensures.world c.in_ok-core.ensures.grows in
    let third : Grows w entered.items.defs named.items.defs [] = subst (λ x. Grows x.now entered.items.defs named.items.defs []) world c.in_ok-options.ensures.grows in
    let a = adds c in
    Grows-then c.in_ok-ty.ensures.grows.grows (Grows-then second (Grows-then third a.grows))

pub returns-clause-lifted : goal.returns-clause-lifted
returns-clause-lifted c = let a = adds c in a.lifted
