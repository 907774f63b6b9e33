use Rattle.std.proofs.Common.{◌≡◌, Some, IsSome, true, subst, sym}
use Rattle.comp_options.specs.declared.required.RequiredOptions.{RequiredOptions}
use Rattle.core_options.specs.MainOptions.{user_of}
use Rattle.main_instance.proofs.AccessCalls.{access_given, access_planned, access_supplied}
use Rattle.main_instance.specs.Calls.{import_at}
use Rattle.main_instance.specs.Sources.{IsShimAlias}
use Rattle.root_imports.proofs.Keeping.{kept_items, kept_none}
use Rattle.shim_plan.specs.Needed.{access_kind, accessed_payload, accesses_through, passes_through}
use Rattle.shim_plan.specs.Plans.{shim_of}
use Rattle.shim_plan.specs.declared.kinds.ShimKind.{ShimKind}
use Rattle.shim_targets.specs.ShimTargets.{which_of}
use Rattle.world_shims.specs.WorldShims.{shims_of}
use Rattle.main_instance.proofs.instances.ImportSources.shim_of_access.Goals as goal

pub shim_there-requires-clause-needed : goal.shim_there-requires-clause-needed
shim_there-requires-clause-needed c =
    let w = c.args.root.now.world.now in
    let s = c.requires.sources in
    let u = c.args.self.now.user in
    let a = accessed_payload c.args.access in
    let i = import_at c.args.place c.args.import.now in
    let through : accesses_through w a ≡ true = subst (λ (n : RequiredOptions). passes_through w n ≡ true) c.requires.needed c.requires.through in
    subst (λ (kind : ShimKind). IsSome (shim_of kind (shims_of w))) (sym c.in_ok-kind.ensures) (access_planned w s.valid u s.user i c.requires.present a c.requires.role through)

-- the root as it was, and with the alias of the shim
pub returns-in_err-kind-clause-kept : goal.returns-in_err-kind-clause-kept
returns-in_err-kind-clause-kept c = kept_none c.args.root.now.world.now c.args.root.now c.requires.sources.tables

pub returns-in_err-index-clause-kept : goal.returns-in_err-index-clause-kept
returns-in_err-index-clause-kept c =
    let w = c.args.root.now.world.now in
    kept_items w c.args.root.now c.args.root.now c.shim_there.new.root (kept_none w c.args.root.now c.requires.sources.tables) c.in_err-index.ensures.same c.in_err-index.ensures.extends

pub returns-clause-kept : goal.returns-clause-kept
returns-clause-kept c =
    let w = c.args.root.now.world.now in
    kept_items w c.args.root.now c.args.root.now c.shim_there.new.root (kept_none w c.args.root.now c.requires.sources.tables) c.in_ok-index.ensures.same c.in_ok-index.ensures.extends

pub returns-clause-given : goal.returns-clause-given
returns-clause-given c =
    let w = c.args.root.now.world.now in
    let s = c.requires.sources in
    let u = c.args.self.now.user in
    let a = accessed_payload c.args.access in
    let i = import_at c.args.place c.args.import.now in
    let ds = c.shim_there.new.root.items.defs in
    let there : IsShimAlias w ds (access_kind (which_of (user_of u.which)) a) (Some c.in_ok-index.index) =
    subst (λ (k : ShimKind). IsShimAlias w ds k (Some c.in_ok-index.index)) c.in_ok-kind.ensures c.in_ok-index.ensures.shim in
    access_given w s.valid u s.user i c.requires.present a c.requires.role ds c.in_ok-index.index there

pub returns-clause-supplied : goal.returns-clause-supplied
returns-clause-supplied c =
    let w = c.args.root.now.world.now in
    let s = c.requires.sources in
    let u = c.args.self.now.user in
    let a = accessed_payload c.args.access in
    let i = import_at c.args.place c.args.import.now in
    let ds = c.shim_there.new.root.items.defs in
    let there : IsShimAlias w ds (access_kind (which_of (user_of u.which)) a) (Some c.in_ok-index.index) =
    subst (λ (k : ShimKind). IsShimAlias w ds k (Some c.in_ok-index.index)) c.in_ok-kind.ensures c.in_ok-index.ensures.shim in
    access_supplied w s.valid u s.user i c.requires.present a c.requires.role ds c.in_ok-index.index there
