use Rattle.std.proofs.Common.{Some, IsSome, subst, sym}
use Rattle.core_options.specs.MainOptions.{user_of}
use Rattle.main_instance.proofs.Functions.{function_given, function_shim_there, function_supplied}
use Rattle.main_instance.specs.Calls.{import_at}
use Rattle.main_instance.specs.Sources.{IsShimAlias}
use Rattle.shim_plan.specs.Needed.{function_kind}
use Rattle.shim_plan.specs.Plans.{shim_of}
use Rattle.shim_plan.specs.declared.kinds.ShimKind.{ShimKind}
use Rattle.shim_targets.specs.ShimTargets.{which_of}
use Rattle.world_shims.specs.WorldShims.{shims_of}
use Rattle.main_instance.proofs.instances.ImportSources.shim_of_function.Goals as goal

pub shim_there-requires-clause-needed : goal.shim_there-requires-clause-needed
shim_there-requires-clause-needed c =
    let w = c.args.root.now.world.now in
    let s = c.requires.sources in
    subst (λ (kind : ShimKind). IsSome (shim_of kind (shims_of w))) (sym c.in_ok-kind.ensures)
    (function_shim_there w s.valid c.args.self.now.user s.user (import_at c.args.place c.args.import.now) c.requires.present c.args.function c.requires.role c.requires.planned)

pub returns-clause-given : goal.returns-clause-given
returns-clause-given c =
    let w = c.args.root.now.world.now in
    let s = c.requires.sources in
    let u = c.args.self.now.user in
    let ds = c.shim_there.new.root.items.defs in
    let there : IsShimAlias w ds (function_kind (which_of (user_of u.which)) c.args.function) (Some c.in_ok-index.index) =
    subst (λ (kind : ShimKind). IsShimAlias w ds kind (Some c.in_ok-index.index)) c.in_ok-kind.ensures c.in_ok-index.ensures.shim in
    function_given w s.valid u s.user (import_at c.args.place c.args.import.now) c.requires.present c.args.function c.requires.role ds c.in_ok-index.index there

pub returns-clause-supplied : goal.returns-clause-supplied
returns-clause-supplied c =
    let w = c.args.root.now.world.now in
    let s = c.requires.sources in
    let u = c.args.self.now.user in
    let ds = c.shim_there.new.root.items.defs in
    let there : IsShimAlias w ds (function_kind (which_of (user_of u.which)) c.args.function) (Some c.in_ok-index.index) =
    subst (λ (kind : ShimKind). IsShimAlias w ds kind (Some c.in_ok-index.index)) c.in_ok-kind.ensures c.in_ok-index.ensures.shim in
    function_supplied w s.valid u s.user (import_at c.args.place c.args.import.now) c.requires.present c.args.function c.requires.role ds c.in_ok-index.index there
