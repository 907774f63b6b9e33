use Rattle.std.proofs.Common.{◌≡◌, drop}
use Rattle.package_types.specs.Sizes.{nothing}
use Rattle.package_types.specs.Types.{types_size}
use Rattle.package_types.proofs.types.types_size.Given as goal

abbrev pub invariant-loop-ty : goal.invariant-loop-ty
invariant-loop-ty l = types_size l.scope (drop l.ty-index l.types) l.size ≡ types_size l.scope l.types nothing
