use Rattle.std.proofs.Common.{◌+◌, ◌*◌}
use Rattle.wit_data.specs.Parts.{parts, height}
use Rattle.wit_data.specs.Values.{kind_at}
use Rattle.world_tables.specs.Walking.{IsWalk}
use Rattle.world_tables.proofs.Walking.{AreMet}
use Rattle.world_tables.proofs.meeting.+meeting.Given as goal

abbrev pub decreases-meet_part : goal.decreases-meet_part
decreases-meet_part l = 4 * height l.part

abbrev pub decreases-meet_type : goal.decreases-meet_type
decreases-meet_type l = 4 * l.id.index + 3

abbrev pub decreases-enter_type : goal.decreases-enter_type
decreases-enter_type l = 4 * l.id.index + 2

abbrev pub decreases-meet_parts : goal.decreases-meet_parts
decreases-meet_parts l = 4 * l.id.index + 1

abbrev pub invariant-meet_parts-loop-n : goal.invariant-meet_parts-loop-n
invariant-meet_parts-loop-n l = IsWalk l.types l.walk × AreMet l.types (λ p. p) (parts (kind_at l.types l.id.index)) l.fn.walk l.walk l.n
