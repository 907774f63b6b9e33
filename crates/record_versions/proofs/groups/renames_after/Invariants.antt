use Rattle.std.proofs.Common.{◌≡◌, [], drop}
use Rattle.record_versions.specs.Groups.{renames_after}
use Rattle.record_versions.proofs.groups.renames_after.Given as goal

abbrev pub invariant-loop-candidate : goal.invariant-loop-candidate
invariant-loop-candidate l = renames_after l.exported l.greatest l.renames (drop l.candidate-index l.candidates) ≡ renames_after l.exported l.greatest [] l.candidates
