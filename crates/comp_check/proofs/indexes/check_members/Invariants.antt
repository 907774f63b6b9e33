use Rattle.std.specs.Prelude.{map}
use Rattle.comp_bytes.specs.Spaces.{member_space}
use Rattle.comp_bytes.specs.Scopes.{MemberScoped}
use Rattle.comp_check.specs.Lacking.{counted}
use Rattle.comp_check.proofs.CheckedPrefix.{CheckedPrefix}
use Rattle.comp_check.proofs.indexes.check_members.Given as goal

abbrev pub invariant-loop-member : goal.invariant-loop-member
invariant-loop-member l = CheckedPrefix member_space (MemberScoped (map counted l.outer)) l.own l.members l.member-index
