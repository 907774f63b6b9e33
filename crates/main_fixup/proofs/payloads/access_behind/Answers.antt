use Rattle.std.proofs.Common.{[], Some, refl, subst, sym}
use Rattle.std.specs.Option.{option_map}
use Rattle.comp_links.specs.Links.{options_in}
use Rattle.comp_links.specs.Modules.{user_imports}
use Rattle.comp_terms.specs.Rules.{Grows}
use Rattle.core_options.proofs.OptionTerms.{options_right, refused_with, some_mapped}
use Rattle.core_options.specs.Causes.{IsCauseAmong}
use Rattle.core_options.specs.MainOptions.{IsAccess, NameOptions, export_ref_of}
use Rattle.comp_worlds.specs.Encodable.{IsEncodable}
use Rattle.comp_worlds.specs.Payloads.{payload_scope}
use Rattle.interface_needs.specs.RootNeeds.{IsPayloadFor}
use Rattle.root_imports.proofs.Growth.{tables_kept}
use Rattle.root_imports.proofs.Keeping.{kept_items, kept_none, kept_then}
use Rattle.root_imports.specs.Growing.{Grows-then}
use Rattle.root_imports.specs.Keeping.{Root, RootKept}
use Rattle.root_imports.specs.Met.{IsSuppliedFor}
use Rattle.root_imports.specs.RootScopes.{ArePassed, AreTablesRight}
use Rattle.main_fixup.proofs.Lowering.{access_for, options_there, shim_refused}
use Rattle.main_fixup.specs.Filling.{ServesShim}
use Rattle.main_fixup.proofs.payloads.access_behind.Goals as goal

pub access_function-requires-clause-valid : goal.access_function-requires-clause-valid
access_function-requires-clause-valid c = subst (λ (r : Root). IsEncodable r.world.now) (sym c.in_ok-listed.ensures.same) c.requires.valid

pub access_function-requires-clause-of : goal.access_function-requires-clause-of
access_function-requires-clause-of c = subst (λ (r : Root). IsPayloadFor r.world.now (payload_scope c.args.info.now) c.args.info.now.ty) (sym c.in_ok-listed.ensures.same) c.requires.of

pub access_function-requires-clause-passed : goal.access_function-requires-clause-passed
access_function-requires-clause-passed c = subst (λ (r : Root). ArePassed r.world.now r.met) (sym c.in_ok-listed.ensures.same) c.requires.passed

pub access_function-requires-clause-supplied : goal.access_function-requires-clause-supplied
access_function-requires-clause-supplied c = subst (λ (r : Root). IsSuppliedFor r.world.now r.met (payload_scope c.args.info.now)) (sym c.in_ok-listed.ensures.same) c.requires.supplied

pub access_function-requires-clause-tables : goal.access_function-requires-clause-tables
access_function-requires-clause-tables c =
    let old = c.args.root.now in
    let mid = c.options_for.new.root.items in
    subst (λ (r : Root). AreTablesRight r.world.now r.met r.instances mid.defs r.maps) (sym c.in_ok-listed.ensures.same)
    (tables_kept old.world.now old.met old.instances old.items mid old.maps c.in_ok-listed.ensures.extends c.requires.tables)

pub access_function-requires-clause-options : goal.access_function-requires-clause-options
access_function-requires-clause-options c =
    let named = c.in_ok-listed.ensures.named in
    options_right c.args.root.now.world.now c.options_for.new.root.items.defs c.in_ok-listed.listed named.terms named.are

-- the root with the options
pub returns-in_err-listed-clause-kept : goal.returns-in_err-listed-clause-kept
returns-in_err-listed-clause-kept c =
    let w = c.args.root.now.world.now in
    kept_items w c.args.root.now c.args.root.now c.options_for.new.root (kept_none w c.args.root.now c.requires.tables) c.in_err-listed.ensures.same c.in_err-listed.ensures.extends

pub returns-in_err-index-clause-kept : goal.returns-in_err-index-clause-kept
returns-in_err-index-clause-kept c =
    let w = c.args.root.now.world.now in
    let mid = c.options_for.new.root in
    let first : RootKept w c.args.root.now mid = kept_items w c.args.root.now c.args.root.now mid (kept_none w c.args.root.now c.requires.tables) c.in_ok-listed.ensures.same c.in_ok-listed.ensures.extends in
    kept_then w c.args.root.now mid c.access_function.new.root first (subst (λ l. RootKept l.now mid c.access_function.new.root) first.world c.in_err-index.ensures.kept)

pub returns-clause-kept : goal.returns-clause-kept
returns-clause-kept c =
    let w = c.args.root.now.world.now in
    let mid = c.options_for.new.root in
    let first : RootKept w c.args.root.now mid = kept_items w c.args.root.now c.args.root.now mid (kept_none w c.args.root.now c.requires.tables) c.in_ok-listed.ensures.same c.in_ok-listed.ensures.extends in
    kept_then w c.args.root.now mid c.access_function.new.root first (subst (λ l. RootKept l.now mid c.access_function.new.root) first.world c.in_ok-index.ensures.kept)

pub returns-clause-grows : goal.returns-clause-grows
returns-clause-grows c =
    let mid = c.options_for.new.root.items.defs in
    let new = c.access_function.new.root.items.defs in
    let second : Grows c.args.root.now.world.now mid new [] = subst (λ (r : Root). Grows r.world.now mid new []) c.in_ok-listed.ensures.same c.in_ok-index.ensures.grows in
    Grows-then c.in_ok-listed.ensures.grows second

pub returns-clause-serves : goal.returns-clause-serves
returns-clause-serves c =
    let w = c.args.root.now.world.now in
    let s = c.args.shim.now in
    let own = option_map export_ref_of c.args.sources.now.realloc in
    let mid = c.options_for.new.root.items.defs in
    let new = c.access_function.new.root.items.defs in
    let listed = c.in_ok-listed.listed in
    let wanted = options_in s.options.0 own (Some c.args.encoding) in
    let made : NameOptions w mid listed wanted → IsAccess w new c.args.kind c.args.info.now.ty wanted c.in_ok-index.index =
    subst (λ (r : Root). NameOptions r.world.now mid listed wanted → IsAccess r.world.now new c.args.kind c.args.info.now.ty wanted c.in_ok-index.index) c.in_ok-listed.ensures.same (c.in_ok-index.ensures.made wanted) in
    access_for w s c.args.encoding own new c.args.info.now c.args.kind c.in_ok-index.index c.requires.behind (made c.in_ok-listed.ensures.named)

pub returns-clause-offered : goal.returns-clause-offered
returns-clause-offered c =
    let b = c.requires.behind in
    options_there c.args.root.now.world.now c.args.shim.now b.given b.stands (option_map export_ref_of c.args.sources.now.realloc) b.reallocated c.in_ok-listed.ensures.memory
    (λ needed. some_mapped c.args.sources.now.realloc (c.in_ok-listed.ensures.realloc needed))

pub returns-in_err-listed-clause-cause : goal.returns-in_err-listed-clause-cause
returns-in_err-listed-clause-cause c =
    let w = c.args.root.now.world.now in
    let b = c.requires.behind in
    let e = c.in_err-listed.field-0.0 in
    refused_with c.from_residual.result e (IsCauseAmong w (user_imports w) []) c.from_residual.ensures.1
    (shim_refused w c.args.shim.now b.given b.stands (option_map export_ref_of c.args.sources.now.realloc) b.reallocated e c.in_err-listed.ensures.cause)
