use Rattle.std.proofs.Common.{◌≡◌, [], ap, subst, sym}
use Rattle.std.specs.Option.{option_map}
use Rattle.core_options.specs.MainOptions.{export_ref_of}
use Rattle.comp_links.specs.Links.{lower_realloc, module_of, export_of}
use Rattle.comp_links.specs.Targets.{Adapter}
use Rattle.comp_terms.specs.Generated.{export_of_kind}
use Rattle.comp_terms.specs.Rules.{Grows}
use Rattle.comp_worlds.specs.declared.world.ComponentWorld.{ComponentWorld}
use Rattle.root_imports.proofs.Keeping.{kept_items}
use Rattle.root_imports.specs.Growing.{Grows-then}
use Rattle.root_imports.specs.Keeping.{RootKept}
use Rattle.root_imports.specs.declared.root_scope.RootScope.{RootScope}
use Rattle.main_fixup.specs.Filling.{AreFillSources, IsBehind, IsUserNamed}
use Rattle.main_fixup.proofs.Behind.{called_used, calling_named, found_behind, return_found, returning_named, returning_supplied, export_offered, export_serves, export_options}
use Rattle.main_fixup.proofs.Filled.{kept_added, sources-kept}
use Rattle.main_fixup.proofs.lowerings.function_behind.Goals as goal

abbrev Root : Type 0
Root = RootScope ComponentWorld

pub imported_function-requires-clause-used : goal.imported_function-requires-clause-used
imported_function-requires-clause-used c =
    let k = c.in-IndirectLowering in called_used c.args.root.now.world.now c.args.shim.now c.requires.stands k.interface k.function k.realloc k.encoding k.is

pub options_of_calls-options-requires-clause-sources : goal.options_of_calls-options-requires-clause-sources
options_of_calls-options-requires-clause-sources c =
    let of = c.in_ok-index-in-IndirectLowering in
    subst (λ (r : Root). AreFillSources r.world.now c.args.sources.now r.met c.imported_function.new.root.items.defs r.maps r.instances) (sym of.ensures.same) (sources-kept of.ensures.extends c.requires.sources)

pub options_of_calls-options-requires-clause-named : goal.options_of_calls-options-requires-clause-named
options_of_calls-options-requires-clause-named c =
    let k = c.in-IndirectLowering in
    let of = c.in_ok-index-in-IndirectLowering in
    subst (λ (r : Root). IsUserNamed r.world.now (module_of k.realloc)) (sym of.ensures.same) (calling_named c.args.root.now.world.now c.args.shim.now c.requires.stands k.interface k.function k.realloc k.encoding k.is)

pub lower_function-requires-clause-behind : goal.lower_function-requires-clause-behind
lower_function-requires-clause-behind c =
    let k = c.in-IndirectLowering in
    let of = c.in_ok-index-in-IndirectLowering in
    let w = c.args.root.now.world.now in
    let ds = c.imported_function.new.root.items.defs in
    let own = option_map export_ref_of c.options_of_calls-options.result.realloc in
    let same : own ≡ lower_realloc w (module_of k.realloc) = subst (λ (r : Root). own ≡ lower_realloc r.world.now (module_of k.realloc)) of.ensures.same c.options_of_calls-options.ensures.realloc in
    let behind : IsBehind w ds c.args.shim.now k.encoding own of.index = found_behind w c.args.shim.now c.requires.stands k.interface k.function k.realloc k.encoding k.is ds own of.index same of.ensures.function in
    subst (λ (r : Root). IsBehind r.world.now ds c.args.shim.now k.encoding own of.index) (sym of.ensures.same) behind

pub returns-in_ok-lowered-in-IndirectLowering-clause-grows : goal.returns-in_ok-lowered-in-IndirectLowering-clause-grows
returns-in_ok-lowered-in-IndirectLowering-clause-grows c =
    let of = c.in_ok-index-in-IndirectLowering in
    let mid = c.imported_function.new.root.items.defs in
    let new = c.lower_function.new.root.items.defs in
    let second : Grows c.args.root.now.world.now mid new [] = subst (λ (r : Root). Grows r.world.now mid new []) of.ensures.same c.in_ok-lowered-in-IndirectLowering.ensures.grows in
    Grows-then of.ensures.grows second

-- the root with the alias of a function of an imported interface, and then with its lowering
pub returns-in_err-lowered-in-IndirectLowering-clause-kept : goal.returns-in_err-lowered-in-IndirectLowering-clause-kept
returns-in_err-lowered-in-IndirectLowering-clause-kept c =
    let of = c.in_ok-index-in-IndirectLowering in
    let mid = c.imported_function.new.root in
    let first : RootKept c.args.root.now.world.now c.args.root.now mid = kept_added c.args.root.now mid c.requires.sources of.ensures.same of.ensures.extends in
    let last = c.in_err-lowered-in-IndirectLowering.ensures in
    kept_items c.args.root.now.world.now c.args.root.now mid c.lower_function.new.root first last.same last.extends

pub returns-in_ok-lowered-in-IndirectLowering-clause-kept : goal.returns-in_ok-lowered-in-IndirectLowering-clause-kept
returns-in_ok-lowered-in-IndirectLowering-clause-kept c =
    let of = c.in_ok-index-in-IndirectLowering in
    let mid = c.imported_function.new.root in
    let first : RootKept c.args.root.now.world.now c.args.root.now mid = kept_added c.args.root.now mid c.requires.sources of.ensures.same of.ensures.extends in
    let last = c.in_ok-lowered-in-IndirectLowering.ensures in
    kept_items c.args.root.now.world.now c.args.root.now mid c.lower_function.new.root first last.same last.extends

pub options_of_calls-given-requires-clause-named : goal.options_of_calls-given-requires-clause-named
options_of_calls-given-requires-clause-named c =
    let k = c.in-TaskReturn in returning_named c.args.root.now.world.now c.requires.sources.valid c.args.shim.now c.requires.stands k.interface k.func k.result k.for_module k.encoding k.is

pub return_behind-requires-clause-behind : goal.return_behind-requires-clause-behind
return_behind-requires-clause-behind c =
    let k = c.in-TaskReturn in
    return_found c.args.root.now.world.now c.requires.sources.valid c.args.shim.now c.requires.stands k.interface k.func k.result k.for_module k.encoding k.is (option_map export_ref_of c.options_of_calls-given.result.realloc) c.options_of_calls-given.ensures.realloc

pub return_behind-requires-clause-supplied : goal.return_behind-requires-clause-supplied
return_behind-requires-clause-supplied c =
    let k = c.in-TaskReturn in
    let s = c.requires.sources in
    returning_supplied c.args.root.now.world.now s.valid c.args.shim.now c.requires.stands k.interface k.func k.result k.for_module k.encoding k.is c.args.root.now.met s.exports s.ordered

pub export_of_adapter-requires-clause-offered : goal.export_of_adapter-requires-clause-offered
export_of_adapter-requires-clause-offered c =
    let k = c.in-Adapter in export_offered c.args.root.now.world.now c.args.shim.now c.requires.stands (export_of (Adapter k.adapter) k.func) (ap export_of_kind k.is)

pub returns-in_ok-aliased-in-Adapter-clause-serves : goal.returns-in_ok-aliased-in-Adapter-clause-serves
returns-in_ok-aliased-in-Adapter-clause-serves c =
    let k = c.in-Adapter in
    let of = c.in_ok-aliased-in-Adapter in
    export_serves c.args.root.now.world.now c.args.shim.now c.requires.stands (export_of (Adapter k.adapter) k.func) (ap export_of_kind k.is) c.before.before.export_of_adapter.new.root.items.defs of.aliased of.ensures.alias

pub returns-in_ok-aliased-in-Adapter-clause-offered : goal.returns-in_ok-aliased-in-Adapter-clause-offered
returns-in_ok-aliased-in-Adapter-clause-offered c =
    let k = c.in-Adapter in export_options c.args.root.now.world.now c.args.shim.now c.requires.stands (export_of (Adapter k.adapter) k.func) (ap export_of_kind k.is)
