use Rattle.std.proofs.Common.{◌≡◌, ◌++◌, drop}
use Rattle.wit_types.specs.Definitions.{cases_of}
use Rattle.wit_types.proofs.definitions.cases_of.Given as goal

abbrev pub invariant-loop-case : goal.invariant-loop-case
invariant-loop-case l = l.made ++ cases_of (drop l.case-index l.cases) l.rest ≡ cases_of l.cases l.parts
