use Rattle.std.proofs.Common.{◌≡◌, ◌++◌, drop}
use Rattle.record_resolve.specs.Kinds.{made_cases}
use Rattle.record_resolve.proofs.kinds.make_cases.Given as goal

abbrev pub invariant-loop-case : goal.invariant-loop-case
invariant-loop-case l = l.made ++ made_cases (drop l.case-index l.cases) l.rest ≡ made_cases l.cases l.parts
