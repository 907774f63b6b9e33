use Rattle.std.proofs.Common.{◌≡◌, []}
use Rattle.record_role_targets.specs.Metadata.{encodings_after}
use Rattle.record_role_targets.proofs.metadata.resolve_encodings.Given as goal

abbrev pub invariant-loop-named : goal.invariant-loop-named
invariant-loop-named l =
    (goal.iterator-loop-named).can_next l.named-iterator ×
    (goal.iterator-loop-named).is_finite l.named-iterator ×
    (encodings_after l.side l.resolved l.all l.named-iterator ≡ encodings_after l.side l.resolved [] l.encodings)
