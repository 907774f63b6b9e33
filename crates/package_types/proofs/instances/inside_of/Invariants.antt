use Rattle.std.proofs.Common.{◌≡◌, drop}
use Rattle.package_types.specs.Instances.{members_from, empty}
use Rattle.package_types.proofs.instances.inside_of.Given as goal

abbrev pub invariant-loop-position : goal.invariant-loop-position
invariant-loop-position l = members_from l.outer l.owner l.position (drop l.position l.members) l.inside ≡ members_from l.outer l.owner 0 l.members empty
