use Rattle.std.proofs.Common.{Some, subst}
use Rattle.main_instance.specs.Sources.{IsShimAlias}
use Rattle.main_instance.proofs.instances.ImportSources.shim_there.Goals as goal

pub returns-clause-shim : goal.returns-clause-shim
returns-clause-shim c =
    subst (IsShimAlias c.args.root.now.world.now c.shim.new.root.items.defs c.args.kind.now) c.in-Some.is c.in_ok-index.ensures.shim
