use Rattle.comp_encoder.proofs.MeetingNames.{NamesSoFar}
use Rattle.comp_encoder.proofs.canonical_names.shared_among.Given as goal

abbrev pub invariant-loop-key : goal.invariant-loop-key
invariant-loop-key l = goal.iterator-loop-key.can_next l.key-iterator × goal.iterator-loop-key.is_finite l.key-iterator × NamesSoFar l.fn.resolve l.fn.entries l.met l.key-iterator
