use Rattle.std.proofs.Common.{◌≡◌, ◌++◌, drop, map}
use Rattle.package_types.specs.Types.{case_of}
use Rattle.package_types.proofs.nodes.plain_cases.Given as goal

abbrev pub invariant-loop-case : goal.invariant-loop-case
invariant-loop-case l = l.plain ++ map case_of (drop l.case-index l.cases) ≡ map case_of l.cases
