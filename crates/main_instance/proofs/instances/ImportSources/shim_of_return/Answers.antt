use Rattle.std.proofs.Common.{◌≡◌, Some, IsSome, true, refl, subst, sym}
use Rattle.comp_roles.specs.declared.imports.Import.TheVariants as imports
use Rattle.core_options.specs.MainOptions.{user_of}
use Rattle.comp_options.specs.OptionLists.{lacks_memory}
use Rattle.main_instance.proofs.GivenCalls.{call_given}
use Rattle.main_instance.proofs.ReturnCalls.{return_has_all, return_planned}
use Rattle.main_instance.specs.Calls.{import_at}
use Rattle.main_instance.specs.Sources.{IsShimAlias}
use Rattle.root_imports.proofs.Keeping.{kept_items, kept_none}
use Rattle.shim_plan.specs.Plans.{shim_of}
use Rattle.shim_plan.specs.declared.kinds.ShimKind.{ShimKind}
use Rattle.shim_plan.specs.declared.kinds.ShimKind.TheVariants as kinds
use Rattle.shim_targets.specs.ShimTargets.{which_of}
use Rattle.world_shims.specs.WorldShims.{shims_of}
use Rattle.main_instance.proofs.instances.ImportSources.shim_of_return.Goals as goal

pub shim_there-requires-clause-needed : goal.shim_there-requires-clause-needed
shim_there-requires-clause-needed c =
    let w = c.args.root.now.world.now in
    let s = c.requires.sources in
    let r = c.args.returned in
    subst (λ (kind : ShimKind). IsSome (shim_of kind (shims_of w))) (sym c.in_ok-kind.ensures)
    (return_planned w s.valid c.args.self.now.user s.user (import_at c.args.place c.args.import.now) c.requires.present r.key.now r.interface r.function.now c.requires.role c.args.encoding c.requires.encoded
    c.args.root.now.items.defs c.args.self.now.memory s.memory (subst (λ n. lacks_memory n c.args.self.now.memory ≡ true) c.requires.needed c.requires.lacks))

-- the root as it was, and with the alias of the shim
pub returns-in_err-kind-clause-kept : goal.returns-in_err-kind-clause-kept
returns-in_err-kind-clause-kept c = kept_none c.args.root.now.world.now c.args.root.now c.requires.sources.tables

pub returns-in_err-index-clause-kept : goal.returns-in_err-index-clause-kept
returns-in_err-index-clause-kept c =
    let w = c.args.root.now.world.now in
    kept_items w c.args.root.now c.args.root.now c.shim_there.new.root (kept_none w c.args.root.now c.requires.sources.tables) c.in_err-index.ensures.same c.in_err-index.ensures.extends

pub returns-clause-kept : goal.returns-clause-kept
returns-clause-kept c =
    let w = c.args.root.now.world.now in
    kept_items w c.args.root.now c.args.root.now c.shim_there.new.root (kept_none w c.args.root.now c.requires.sources.tables) c.in_ok-index.ensures.same c.in_ok-index.ensures.extends

pub returns-clause-given : goal.returns-clause-given
returns-clause-given c =
    let w = c.args.root.now.world.now in
    let s = c.requires.sources in
    let u = c.args.self.now.user in
    let r = c.args.returned in
    let ds = c.shim_there.new.root.items.defs in
    let role = imports.ExportedTaskReturn r.key.now r.interface r.function.now in
    let kind = kinds.TaskReturn r.interface r.function.now.name r.function.now.result (which_of (user_of u.which)) c.args.encoding in
    let there : IsShimAlias w ds kind (Some c.in_ok-index.index) =
    subst (λ (k : ShimKind). IsShimAlias w ds k (Some c.in_ok-index.index)) c.in_ok-kind.ensures c.in_ok-index.ensures.shim in
    call_given w s.valid u s.user (import_at c.args.place c.args.import.now) c.requires.present role c.requires.role c.args.encoding c.requires.encoded kind refl ds c.in_ok-index.index there

pub returns-clause-supplied : goal.returns-clause-supplied
returns-clause-supplied c =
    let r = c.args.returned in
    let s = c.requires.sources in
    return_has_all c.args.root.now.world.now s.valid c.args.self.now.user s.user (import_at c.args.place c.args.import.now) c.requires.present r.key.now r.interface r.function.now c.requires.role c.args.encoding c.requires.encoded
