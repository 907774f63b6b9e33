use Rattle.std.proofs.Common.{◌≡◌}
use Rattle.package_lower.specs.Roles.{exports_after}
use Rattle.package_lower.proofs.roles.add_exports.Given as goal

abbrev pub invariant-loop-name : goal.invariant-loop-name
invariant-loop-name l =
    (goal.iterator-loop-name).can_next l.name-iterator ×
    (goal.iterator-loop-name).is_finite l.name-iterator ×
    (exports_after l.names l.rejects_older l.roles l.name-iterator ≡ exports_after l.names l.rejects_older l.fn.roles l.exports)
