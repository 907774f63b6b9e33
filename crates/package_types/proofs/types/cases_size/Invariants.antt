use Rattle.std.proofs.Common.{◌≡◌, drop}
use Rattle.package_types.specs.Sizes.{nothing}
use Rattle.package_types.specs.Types.{cases_size}
use Rattle.package_types.proofs.types.cases_size.Given as goal

abbrev pub invariant-loop-case : goal.invariant-loop-case
invariant-loop-case l = cases_size l.scope (drop l.case-index l.cases) l.size ≡ cases_size l.scope l.cases nothing
