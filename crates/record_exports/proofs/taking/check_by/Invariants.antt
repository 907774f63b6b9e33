use Rattle.std.proofs.Common.{◌≡◌}
use Rattle.record_exports.specs.Functions.{known_by}
use Rattle.record_exports.specs.Taking.{taken}
use Rattle.record_exports.proofs.taking.check_by.Given as goal

abbrev pub invariant-loop-name : goal.invariant-loop-name
invariant-loop-name l =
    (goal.iterator-loop-name).can_next l.name-iterator ×
    (goal.iterator-loop-name).is_finite l.name-iterator ×
    (taken (known_by l.functions) l.name-iterator ≡ taken (known_by l.functions) l.exports)
