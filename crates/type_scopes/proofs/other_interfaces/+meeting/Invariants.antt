use Rattle.std.proofs.Common.{◌+◌, ◌*◌}
use Rattle.wit_data.specs.Values.{part_values}
use Rattle.wit_data.specs.Parts.{height}
use Rattle.type_scopes.specs.Foreign.{meeting, KnowsEntered}
use Rattle.type_scopes.proofs.Meeting.{MetSoFar}
use Rattle.type_scopes.proofs.other_interfaces.+meeting.Given as goal

abbrev pub decreases-meet_part : goal.decreases-meet_part
decreases-meet_part l = 4 * height l.part

abbrev pub decreases-meet_type : goal.decreases-meet_type
decreases-meet_type l = 4 * l.id.index + 3

abbrev pub decreases-enter_type : goal.decreases-enter_type
decreases-enter_type l = 4 * l.id.index + 2

abbrev pub decreases-meet_parts : goal.decreases-meet_parts
decreases-meet_parts l = 4 * l.id.index + 1

abbrev pub invariant-meet_parts-loop-n : goal.invariant-meet_parts-loop-n
invariant-meet_parts-loop-n l = MetSoFar l.fn.met.types l.met.types l.n (part_values (meeting l.types l.here) l.types l.id.index) × KnowsEntered l.types l.here l.met
