use Rattle.std.proofs.Common.{◌∙◌, [], Some, IsTrue, ap, ap₂, subst, sym}
use Rattle.std.specs.Option.{option_map}
use Rattle.comp_items.proofs.Remembering.{longer}
use Rattle.comp_links.specs.Links.{options_in}
use Rattle.comp_links.specs.Modules.{user_imports}
use Rattle.comp_options.specs.Options.{needs}
use Rattle.comp_options.specs.declared.required.RequiredOptions.{RequiredOptions}
use Rattle.comp_terms.specs.Planned.{main_memory}
use Rattle.comp_terms.specs.Rules.{Grows}
use Rattle.core_options.proofs.OptionTerms.{memory_kept, options_right, refused_with, some_mapped}
use Rattle.core_options.specs.Causes.{IsCauseAmong}
use Rattle.core_options.specs.MainOptions.{IsMemoryFunction, IsMemoryIf, NameOptions, export_ref_of, function_wanted}
use Rattle.main_fixup.proofs.Lowering.{function_serves, needed_refused, needed_there, no_memory}
use Rattle.root_imports.specs.Growing.{Grows-then}
use Rattle.root_imports.specs.Keeping.{Root}
use Rattle.standard_kinds.specs.declared.kinds.StringEncoding.{StringEncoding}
use Rattle.main_fixup.proofs.functions_of_memory.function_behind.Goals as goal

pub memory_function-requires-clause-memory : goal.memory_function-requires-clause-memory
memory_function-requires-clause-memory c =
    let w = c.args.root.now.world.now in
    let mid = c.options_for.new.root.items.defs in
    let there : IsMemoryIf c.args.root.now.items.defs (main_memory w) (Some c.in_ok-memory.memory) = subst (IsMemoryIf c.args.root.now.items.defs (main_memory w)) c.in_ok-memory.ensures.ok c.requires.sources.memory in
    subst (λ (r : Root). IsMemoryIf mid (main_memory r.world.now) (Some c.in_ok-memory.memory)) (sym c.in_ok-listed.ensures.same) (memory_kept c.args.root.now.items.defs mid (longer c.in_ok-listed.ensures.extends) (main_memory w) (Some c.in_ok-memory.memory) there)

pub memory_function-requires-clause-options : goal.memory_function-requires-clause-options
memory_function-requires-clause-options c =
    let named = c.in_ok-listed.ensures.named in
    options_right c.args.root.now.world.now c.options_for.new.root.items.defs c.in_ok-listed.listed named.terms named.are

pub returns-clause-grows : goal.returns-clause-grows
returns-clause-grows c =
    let mid = c.options_for.new.root.items.defs in
    let new = c.memory_function.new.root.items.defs in
    let second : Grows c.args.root.now.world.now mid new [] = subst (λ (r : Root). Grows r.world.now mid new []) c.in_ok-listed.ensures.same c.in_ok-index.ensures.grows in
    Grows-then c.in_ok-listed.ensures.grows second

pub returns-clause-serves : goal.returns-clause-serves
returns-clause-serves c =
    let w = c.args.root.now.world.now in
    let own = option_map export_ref_of c.args.sources.now.realloc in
    let mid = c.options_for.new.root.items.defs in
    let new = c.memory_function.new.root.items.defs in
    let wanted = function_wanted c.args.function own in
    let listed : NameOptions w mid c.in_ok-listed.listed wanted =
    subst (λ o. NameOptions w mid c.in_ok-listed.listed o) (ap₂ (λ (o : RequiredOptions) (e : StringEncoding). options_in o.0 own (Some e)) c.options.ensures c.encoding.ensures) c.in_ok-listed.ensures.named in
    let made : IsMemoryFunction w new c.args.function wanted c.in_ok-index.index =
    subst (λ (r : Root). NameOptions r.world.now mid c.in_ok-listed.listed wanted → IsMemoryFunction r.world.now new c.args.function wanted c.in_ok-index.index) c.in_ok-listed.ensures.same (c.in_ok-index.ensures.made own) listed in
    function_serves w c.args.shim.now new c.args.function own c.in_ok-index.index c.requires.behind made

pub returns-clause-offered : goal.returns-clause-offered
returns-clause-offered c =
    let b = c.requires.behind in
    needed_there c.args.root.now.world.now c.args.shim.now b.given b.stands (option_map export_ref_of c.args.sources.now.realloc) c.options.result.0 (b.stands.options ∙ (b.needed ∙ ap (λ (o : RequiredOptions). o.0) (sym c.options.ensures))) (λ n. b.reallocated (subst (λ (o : RequiredOptions). IsTrue (needs o.0 2)) c.options.ensures n))
    c.in_ok-listed.ensures.memory (λ n. some_mapped c.args.sources.now.realloc (c.in_ok-listed.ensures.realloc n))

pub returns-in_err-memory-clause-cause : goal.returns-in_err-memory-clause-cause
returns-in_err-memory-clause-cause c =
    let w = c.args.root.now.world.now in
    let b = c.requires.behind in
    let e = c.in_err-memory.field-0.0 in
    refused_with c.from_residual.result e (IsCauseAmong w (user_imports w) []) c.from_residual.ensures.1
    (no_memory w c.args.shim.now b.given b.stands c.args.root.now.items.defs c.args.sources.now.memory c.requires.sources.memory e c.in_err-memory.ensures.cause)

pub returns-in_err-listed-clause-cause : goal.returns-in_err-listed-clause-cause
returns-in_err-listed-clause-cause c =
    let w = c.args.root.now.world.now in
    let b = c.requires.behind in
    let e = c.in_err-listed.field-0.0 in
    refused_with c.from_residual-in_err-listed.result e (IsCauseAmong w (user_imports w) []) c.from_residual-in_err-listed.ensures.1
    (needed_refused w c.args.shim.now b.given b.stands (option_map export_ref_of c.args.sources.now.realloc) c.options.result.0 (ap (λ (o : RequiredOptions). o.0) c.options.ensures ∙ sym b.needed) (λ n. b.reallocated (subst (λ (o : RequiredOptions). IsTrue (needs o.0 2)) c.options.ensures n)) e c.in_err-listed.ensures.cause)
