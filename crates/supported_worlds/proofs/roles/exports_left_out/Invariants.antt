use Rattle.std.proofs.Common.{◌≡◌}
use Rattle.comp_roles.specs.Lookups.{first_some}
use Rattle.supported_worlds.specs.LeftOut.{export_left_out}
use Rattle.supported_worlds.proofs.roles.exports_left_out.Given as goal

abbrev pub invariant-loop-role : goal.invariant-loop-role
invariant-loop-role l =
    goal.iterator-loop-role.can_next l.role-iterator ×
    goal.iterator-loop-role.is_finite l.role-iterator ×
    (first_some (λ e. export_left_out l.types e.1) l.role-iterator ≡ first_some (λ e. export_left_out l.types e.1) l.exports)
