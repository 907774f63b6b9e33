use Rattle.std.proofs.Common.{◌≡◌}
use Rattle.std.specs.Map.{keys_of}
use Rattle.comp_roles.specs.Lookups.{first_some}
use Rattle.supported_worlds.specs.LeftOut.{own_role_left_out}
use Rattle.supported_worlds.proofs.owned.own_fields_left_out.Given as goal

abbrev pub invariant-loop-role : goal.invariant-loop-role
invariant-loop-role l =
    goal.iterator-loop-role.can_next l.role-iterator ×
    goal.iterator-loop-role.is_finite l.role-iterator ×
    (first_some (λ f. own_role_left_out l.resolve l.exports (keys_of l.required) f.1) l.role-iterator ≡ first_some (λ f. own_role_left_out l.resolve l.exports (keys_of l.required) f.1) l.fields)
