use Rattle.std.proofs.Common.{◌≡◌}
use Rattle.comp_roles.specs.Lookups.{first_export}
use Rattle.comp_roles.proofs.roles.first.Given as goal

abbrev pub invariant-loop-name : goal.invariant-loop-name
invariant-loop-name g l =
    (goal.iterator-loop-name g).can_next l.name-iterator ×
    (goal.iterator-loop-name g).is_finite l.name-iterator ×
    (first_export (g.R.Role.matching l.role) l.name-iterator ≡ first_export (g.R.Role.matching l.role) l.exports)
