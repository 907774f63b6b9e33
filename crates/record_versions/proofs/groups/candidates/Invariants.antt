use Rattle.std.proofs.Common.{◌≡◌, ◌++◌}
use Rattle.record_versions.specs.Groups.{candidates}
use Rattle.record_versions.proofs.groups.candidates.Given as goal

abbrev pub invariant-loop-key : goal.invariant-loop-key
invariant-loop-key l =
    (goal.iterator-loop-key).can_next l._key-iterator ×
    (goal.iterator-loop-key).is_finite l._key-iterator ×
    (l.found ++ candidates l._key-iterator ≡ candidates l.imports)
