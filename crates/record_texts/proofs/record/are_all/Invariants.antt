use Rattle.std.proofs.Common.{◌≡◌, ◌++◌, [], drop, map}
use Rattle.std.specs.List.{list_all}
use Rattle.record_texts.specs.Records.{is_encoding}
use Rattle.record_texts.proofs.record.are_all.Given as goal

abbrev pub invariant-loop-encoding : goal.invariant-loop-encoding
invariant-loop-encoding l =
    (goal.iterator-loop-encoding).can_next l.encoding-iterator ×
    (goal.iterator-loop-encoding).is_finite l.encoding-iterator ×
    (list_all (is_encoding l.wanted) (map (λ e. e.1) l.encoding-iterator) ≡ list_all (is_encoding l.wanted) (map (λ e. e.1) l.encodings))
