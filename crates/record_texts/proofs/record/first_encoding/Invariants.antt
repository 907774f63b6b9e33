use Rattle.std.proofs.Common.{◌≡◌, ◌++◌, [], drop, map}
use Rattle.record_texts.specs.Records.{first_if}
use Rattle.record_texts.proofs.record.first_encoding.Given as goal

abbrev pub invariant-loop-encoding : goal.invariant-loop-encoding
invariant-loop-encoding l =
    (goal.iterator-loop-encoding).can_next l.encoding-iterator ×
    (goal.iterator-loop-encoding).is_finite l.encoding-iterator ×
    (first_if (map (λ e. e.1) l.encoding-iterator) ≡ first_if (map (λ e. e.1) l.encodings))
