use Rattle.std.proofs.Common.{◌≡◌, [], drop}
use Rattle.record_merge.specs.Encodings.{encodings_after}
use Rattle.record_merge.proofs.encodings.export_encodings.Given as goal

abbrev pub invariant-loop-one : goal.invariant-loop-one
invariant-loop-one l = encodings_after (λ w. w.exports) l.table (drop l.one-index l.records) ≡ encodings_after (λ w. w.exports) [] l.records
