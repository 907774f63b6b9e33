use Rattle.std.proofs.Common.{Some, subst}
use Rattle.main_instance.proofs.Giving.{adapter_given}
use Rattle.main_instance.specs.Sources.{IsShimAlias, adapter_kind}
use Rattle.main_instance.proofs.instances.ImportSources.adapter_export.Goals as goal

pub returns-clause-given : goal.returns-clause-given
returns-clause-given c =
    let w = c.args.root.now.world.now in
    let ds = c.shim.new.root.items.defs in
    let there : IsShimAlias w ds c.in_ok-kind.kind (Some c.in-Some.index) = subst (IsShimAlias w ds c.in_ok-kind.kind) c.in-Some.is c.in_ok-index.ensures.shim in
    let of_kind : IsShimAlias w ds (adapter_kind c.args.adapter.now c.args.function.now) (Some c.in-Some.index) = subst (λ kind. IsShimAlias w ds kind (Some c.in-Some.index)) c.in_ok-kind.ensures there in
    adapter_given w c.requires.sources.valid c.args.adapter.now c.args.function.now ds c.in-Some.index of_kind
