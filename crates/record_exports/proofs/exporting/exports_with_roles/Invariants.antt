use Rattle.std.proofs.Common.{◌≡◌, []}
use Rattle.record_exports.specs.Exporting.{exports_after}
use Rattle.record_exports.proofs.exporting.exports_with_roles.Given as goal

abbrev pub invariant-loop-name : goal.invariant-loop-name
invariant-loop-name l =
    (goal.iterator-loop-name).can_next l.name-iterator ×
    (goal.iterator-loop-name).is_finite l.name-iterator ×
    (exports_after l.resolved l.roles l.core l.all l.name-iterator ≡ exports_after l.resolved l.roles l.core [] l.core.exports)
