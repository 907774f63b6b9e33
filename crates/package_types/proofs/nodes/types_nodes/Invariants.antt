use Rattle.std.proofs.Common.{◌≡◌, [], drop}
use Rattle.package_types.specs.Types.{types_after}
use Rattle.package_types.proofs.nodes.types_nodes.Given as goal

abbrev pub invariant-loop-ty : goal.invariant-loop-ty
invariant-loop-ty l = types_after l.scope (drop l.ty-index l.types) l.nodes ≡ types_after l.scope l.types []
