use Rattle.std.proofs.Common.{◌≡◌, []}
use Rattle.package_lower.specs.Reading.{records_after}
use Rattle.package_lower.proofs.reading.records_of.Given as goal

abbrev pub invariant-loop-text : goal.invariant-loop-text
invariant-loop-text l =
    (goal.iterator-loop-text).can_next l.text-iterator ×
    (goal.iterator-loop-text).is_finite l.text-iterator ×
    (records_after l.records l.text-iterator ≡ records_after [] l.texts)
