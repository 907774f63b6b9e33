use Rattle.std.proofs.Common.{◌≡◌, [], drop}
use Rattle.package_types.specs.Types.{cases_after}
use Rattle.package_types.proofs.nodes.cases_nodes.Given as goal

abbrev pub invariant-loop-case : goal.invariant-loop-case
invariant-loop-case l = cases_after l.scope (drop l.case-index l.cases) l.nodes ≡ cases_after l.scope l.cases []
