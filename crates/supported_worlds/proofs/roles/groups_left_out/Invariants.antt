use Rattle.std.proofs.Common.{◌≡◌}
use Rattle.std.specs.List.{IsDistinct}
use Rattle.std.specs.Map.{keys_of}
use Rattle.std.specs.Str.{bytes_eq}
use Rattle.comp_roles.specs.Lookups.{first_some}
use Rattle.supported_worlds.specs.LeftOut.{group_left_out}
use Rattle.supported_worlds.proofs.Walking.{StillApart}
use Rattle.supported_worlds.proofs.roles.groups_left_out.Given as goal

abbrev pub invariant-loop-instance : goal.invariant-loop-instance
invariant-loop-instance l =
    goal.iterator-loop-instance.can_next l.instance-iterator ×
    goal.iterator-loop-instance.is_finite l.instance-iterator ×
    (first_some (group_left_out l.types l.places.types l.places.interfaces.root) l.instance-iterator ≡ first_some (group_left_out l.types l.places.types l.places.interfaces.root) l.groups) ×
    IsDistinct bytes_eq (keys_of l.groups) ×
    StillApart l.instance-iterator l.groups
