use Rattle.std.proofs.Common.{◌≡◌, [], drop}
use Rattle.record_merge.specs.Encodings.{encodings_after}
use Rattle.record_merge.proofs.encodings.import_encodings.Given as goal

abbrev pub invariant-loop-one : goal.invariant-loop-one
invariant-loop-one l = encodings_after (λ w. w.imports) l.table (drop l.one-index l.records) ≡ encodings_after (λ w. w.imports) [] l.records
