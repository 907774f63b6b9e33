use Rattle.std.proofs.Common.{[], ap}
use Rattle.comp_builder.specs.Built.{Built}
use Rattle.comp_bytes.specs.declared.def.Def.TheVariants as defs
use Rattle.comp_bytes.specs.declared.def.Item.TheVariants as items
use Rattle.comp_items.proofs.Kept.{imported_function-kept}
use Rattle.comp_items.proofs.Remembering.{longer}
use Rattle.comp_terms.specs.Rules.{Grows}
use Rattle.comp_terms.specs.Terms.{IsImportedFunction}
use Rattle.root_imports.specs.Growing.{Grows-by, Grows-then}
use Rattle.core_options.proofs.OptionTerms.{options_right}
use Rattle.main_instance.proofs.DirectCalls.{lowered_item}
use Rattle.main_instance.proofs.instances.ImportSources.lower_call.Goals as goal

pub returns-clause-grows : goal.returns-clause-grows
returns-clause-grows c =
    let w = c.args.root.now.world.now in
    let mid = c.direct_options.new.root.items.defs in
    let f = c.requires.imported in
    let is : IsImportedFunction mid c.args.function f.origin f.type = imported_function-kept (longer c.in_ok-options.ensures.extends) f.is in
    let one : Grows w mid c.lower_function.new.self.defs [] =
    Grows-by (defs.Item (items.Lower c.args.function c.in_ok-options.options)) (ap (λ (x : Built). x.defs) c.in_ok-index.ensures.adds.1)
    (record { origin = f.origin; type = f.type; is = is }, options_right w mid c.in_ok-options.options c.in_ok-options.ensures.named.terms c.in_ok-options.ensures.named.are) in
    Grows-then c.in_ok-options.ensures.grows one

pub returns-clause-lowered : goal.returns-clause-lowered
returns-clause-lowered c = λ called f.
    let w = c.args.root.now.world.now in
    let old = c.args.root.now.items.defs in
    let mid = c.direct_options.new.root.items.defs in
    let named = c.in_ok-options.ensures.named in
    lowered_item w old mid c.lower_function.new.self.defs c.args.function c.in_ok-index.index c.in_ok-options.options _ called f named
    (c.in_ok-index.ensures.lowered f.origin f.type named.terms (imported_function-kept (longer c.in_ok-options.ensures.extends) f.is) named.are)
