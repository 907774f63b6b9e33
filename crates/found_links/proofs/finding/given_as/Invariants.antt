use Rattle.std.proofs.Common.{◌≡◌, length}
use Rattle.found_links.specs.Links.{given_as}
use Rattle.found_links.proofs.finding.given_as.Given as goal

abbrev pub invariant-loop-rest : goal.invariant-loop-rest
invariant-loop-rest l = given_as l.name l.rest ≡ given_as l.name l.arguments

abbrev pub decreases-loop-rest : goal.decreases-loop-rest
decreases-loop-rest l = length l.rest
