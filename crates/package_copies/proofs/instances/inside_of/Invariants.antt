use Rattle.std.proofs.Common.{◌≡◌, drop}
use Rattle.package_copies.specs.Instances.{members_after, nothing}
use Rattle.package_copies.proofs.instances.inside_of.Given as goal

abbrev pub invariant-loop-member : goal.invariant-loop-member
invariant-loop-member l = members_after l.outer (drop l.member-index l.members) l.inside ≡ members_after l.outer l.members nothing
