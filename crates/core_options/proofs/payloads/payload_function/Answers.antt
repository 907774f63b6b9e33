use Rattle.std.proofs.Common.{[], ap, is_some, subst}
use Rattle.comp_inventories.specs.Inventories.{scope_of}
use Rattle.core_options.proofs.PayloadFunctions.{payload_term}
use Rattle.comp_terms.specs.Planned.{payload_tree}
use Rattle.comp_terms.specs.Rules.{Grows}
use Rattle.comp_worlds.specs.declared.world.ComponentWorld.{ComponentWorld}
use Rattle.root_imports.proofs.Keeping.{kept_items, kept_typed}
use Rattle.root_imports.proofs.PayloadTypes.{payload_known}
use Rattle.root_imports.specs.Growing.{Grows-then}
use Rattle.root_imports.specs.Keeping.{Root, RootKept}
use Rattle.core_options.proofs.payloads.payload_function.Goals as goal

pub function_of_type-requires-clause-called : goal.function_of_type-requires-clause-called
function_of_type-requires-clause-called c = ap is_some c.requires.called

pub function_of_type-requires-clause-known : goal.function_of_type-requires-clause-known
function_of_type-requires-clause-known c =
    payload_known c.args.root.now.world.now c.args.info.now.ty (scope_of c.payload_type.new.self.items.defs) c.in_ok-ty.ty c.in_ok-ty.ensures.denotes

pub returns-in_err-ty-clause-kept : goal.returns-in_err-ty-clause-kept
returns-in_err-ty-clause-kept c =
    let e = c.in_err-ty.ensures in
    kept_typed c.args.root.now.world.now c.args.root.now c.payload_type.new.self e.world e.met e.instances e.grows e.tables

pub returns-clause-kept : goal.returns-clause-kept
returns-clause-kept c =
    let w = c.args.root.now.world.now in
    let mid : Root = c.payload_type.new.self in
    let e = c.in_ok-ty.ensures in
    let typed : RootKept w c.args.root.now mid = kept_typed w c.args.root.now mid e.world e.met e.instances e.grows e.tables in
    kept_items w c.args.root.now mid c.function_of_type.new.root typed c.function_of_type.ensures.same c.function_of_type.ensures.extends

pub returns-clause-grows : goal.returns-clause-grows
returns-clause-grows c =
    let e = c.in_ok-ty.ensures in
    let mid = c.payload_type.new.self.items.defs in
    let new = c.function_of_type.new.root.items.defs in
    let one : Grows c.args.root.now.world.now mid new [] = subst (λ (v : ComponentWorld). Grows v mid new []) (ap (λ r. r.now) e.world) c.in_ok-index.ensures.grows in
    Grows-then e.grows.grows one

pub returns-clause-made : goal.returns-clause-made
returns-clause-made c of named =
    let w = c.args.root.now.world.now in
    payload_term w c.function_of_type.new.root.items.defs c.in_ok-index.index c.args.role.now c.args.info.now c.requires.called of named
    (c.in_ok-index.ensures.made of (payload_tree w c.args.info.now.ty) named c.in_ok-ty.ensures.denotes)

pub returns-in_err-index-clause-kept : goal.returns-in_err-index-clause-kept
returns-in_err-index-clause-kept c =
    let w = c.args.root.now.world.now in
    let mid : Root = c.payload_type.new.self in
    let e = c.in_ok-ty.ensures in
    let typed : RootKept w c.args.root.now mid = kept_typed w c.args.root.now mid e.world e.met e.instances e.grows e.tables in
    kept_items w c.args.root.now mid c.function_of_type.new.root typed c.function_of_type.ensures.same c.function_of_type.ensures.extends
