use Rattle.std.proofs.Common.{◌≡◌, [], drop}
use Rattle.record_versions.specs.Groups.{greatest_after}
use Rattle.record_versions.proofs.groups.greatest_of.Given as goal

abbrev pub invariant-loop-candidate : goal.invariant-loop-candidate
invariant-loop-candidate l = greatest_after l.greatest (drop l.candidate-index l.candidates) ≡ greatest_after [] l.candidates
