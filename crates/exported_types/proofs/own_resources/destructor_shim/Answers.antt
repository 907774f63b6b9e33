use Rattle.std.proofs.Common.{rules, ◌≡◌, Some, None, subst}
use Rattle.comp_items.proofs.Extending.{extends_none}
use Rattle.comp_roles.specs.FunctionExports.{is_dtor}
use Rattle.comp_roles.specs.Lookups.{first_export}
use Rattle.core_options.specs.MainOptions.{user_of}
use Rattle.main_instance.specs.Sources.{IsShimAlias}
use Rattle.shim_plan.specs.declared.kinds.ShimKind.TheVariants as kinds
use Rattle.shim_targets.specs.ShimTargets.{which_of}
use Rattle.exported_types.proofs.Destructing.{destructed, undestructed}
use Rattle.exported_types.proofs.own_resources.destructor_shim.Goals as goal

pub returns-in_err-kind-in-Some-clause-extends : goal.returns-in_err-kind-in-Some-clause-extends
returns-in_err-kind-in-Some-clause-extends c = extends_none c.args.root.now.items

pub returns-in-None-clause-extends : goal.returns-in-None-clause-extends
returns-in-None-clause-extends c = extends_none c.args.root.now.items

pub returns-in-None-clause-right : goal.returns-in-None-clause-right
returns-in-None-clause-right c =
    let w = c.args.root.now.world.now in
    let m = c.args.sources.found.now in
    let is : first_export (is_dtor c.args.id) m.exports.exports ≡ None = search rules in
    undestructed w c.args.root.now.items.defs (user_of c.args.sources.which) m c.requires.sources.found c.args.id is

pub returns-in_ok-index-in-Some-clause-right : goal.returns-in_ok-index-in-Some-clause-right
returns-in_ok-index-in-Some-clause-right c =
    let w = c.args.root.now.world.now in
    let ds = c.shim_alias.new.root.items.defs in
    let of = user_of c.args.sources.which in
    let m = c.args.sources.found.now in
    let name = c.in-Some.name.now in
    let is : first_export (is_dtor c.args.id) m.exports.exports ≡ Some name = search rules in
    let alias : IsShimAlias w ds (kinds.ResourceDtor (which_of of) name) c.in_ok-index-in-Some.index = subst (λ k. IsShimAlias w ds k c.in_ok-index-in-Some.index) c.in_ok-kind-in-Some.ensures c.in_ok-index-in-Some.ensures.shim in
    destructed w c.requires.valid ds of m c.requires.sources.found c.args.id name is c.in_ok-index-in-Some.index alias
