use Rattle.std.proofs.Common.{[], ap}
use Rattle.std.specs.Option.{option_map}
use Rattle.comp_builder.specs.Built.{Built}
use Rattle.comp_bytes.specs.declared.def.Def.TheVariants as defs
use Rattle.comp_bytes.specs.declared.def.Item.TheVariants as items
use Rattle.comp_items.proofs.Remembering.{longer}
use Rattle.comp_terms.specs.Rules.{Grows}
use Rattle.comp_links.specs.Modules.{user_imports}
use Rattle.core_options.proofs.OptionTerms.{options_right, refused_with, some_mapped}
use Rattle.core_options.specs.Causes.{IsCauseAmong}
use Rattle.core_options.specs.MainOptions.{export_ref_of}
use Rattle.root_imports.specs.Growing.{Grows-by, Grows-then}
use Rattle.main_fixup.specs.Filling.{IsBehind}
use Rattle.main_fixup.proofs.Lowering.{behind-kept, lowering_for, options_there, shim_refused}
use Rattle.main_fixup.proofs.lowerings.lower_function.Goals as goal

pub returns-clause-grows : goal.returns-clause-grows
returns-clause-grows c =
    let w = c.args.root.now.world.now in
    let s = c.args.shim.now in
    let mid = c.options_for.new.root.items.defs in
    let own = option_map export_ref_of c.args.sources.now.realloc in
    let b : IsBehind w mid s c.args.encoding own c.args.function = behind-kept w c.args.root.now.items.defs mid (longer c.in_ok-options.ensures.extends) s c.args.encoding own c.args.function c.requires.behind in
    let one : Grows w mid c.lower_function.new.self.defs [] =
    Grows-by (defs.Item (items.Lower c.args.function c.in_ok-options.options)) (ap (λ (x : Built). x.defs) c.in_ok-index.ensures.adds.1)
    (record { origin = b.is.origin; type = b.is.type; is = b.is.is }, options_right w mid c.in_ok-options.options c.in_ok-options.ensures.named.terms c.in_ok-options.ensures.named.are) in
    Grows-then c.in_ok-options.ensures.grows one

pub returns-clause-serves : goal.returns-clause-serves
returns-clause-serves c =
    let w = c.args.root.now.world.now in
    let s = c.args.shim.now in
    let mid = c.options_for.new.root.items.defs in
    let own = option_map export_ref_of c.args.sources.now.realloc in
    let b : IsBehind w mid s c.args.encoding own c.args.function = behind-kept w c.args.root.now.items.defs mid (longer c.in_ok-options.ensures.extends) s c.args.encoding own c.args.function c.requires.behind in
    let named = c.in_ok-options.ensures.named in
    lowering_for w s c.args.encoding own mid c.lower_function.new.self.defs c.args.function c.in_ok-index.index c.in_ok-options.options b named
    (c.in_ok-index.ensures.lowered b.is.origin b.is.type named.terms b.is.is named.are)

pub returns-clause-offered : goal.returns-clause-offered
returns-clause-offered c =
    let b = c.requires.behind in
    options_there c.args.root.now.world.now c.args.shim.now b.given b.stands (option_map export_ref_of c.args.sources.now.realloc) b.reallocated c.in_ok-options.ensures.memory
    (λ needed. some_mapped c.args.sources.now.realloc (c.in_ok-options.ensures.realloc needed))

pub returns-in_err-options-clause-cause : goal.returns-in_err-options-clause-cause
returns-in_err-options-clause-cause c =
    let w = c.args.root.now.world.now in
    let b = c.requires.behind in
    let e = c.in_err-options.field-0.0 in
    refused_with c.from_residual.result e (IsCauseAmong w (user_imports w) []) c.from_residual.ensures.1
    (shim_refused w c.args.shim.now b.given b.stands (option_map export_ref_of c.args.sources.now.realloc) b.reallocated e c.in_err-options.ensures.cause)
