use Rattle.std.proofs.Common.{◌≡◌}
use Rattle.std.specs.Map.{keys_of}
use Rattle.comp_roles.specs.Lookups.{first_some}
use Rattle.supported_worlds.specs.LeftOut.{own_group_left_out}
use Rattle.supported_worlds.proofs.owned.groups_left_out.Given as goal

abbrev pub invariant-loop-instance : goal.invariant-loop-instance
invariant-loop-instance l =
    goal.iterator-loop-instance.can_next l.instance-iterator ×
    goal.iterator-loop-instance.is_finite l.instance-iterator ×
    (first_some (own_group_left_out l.resolve l.exports (keys_of l.required)) l.instance-iterator ≡ first_some (own_group_left_out l.resolve l.exports (keys_of l.required)) l.groups)
