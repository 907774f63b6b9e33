use Rattle.std.proofs.Common.{◌+◌, ◌*◌}
use Rattle.wit_data.specs.Values.{part_values}
use Rattle.wit_data.specs.Parts.{height}
use Rattle.record_role_targets.specs.Payloads.{meeting}
use Rattle.record_role_targets.proofs.Walking.{WalkedSoFar}
use Rattle.record_role_targets.proofs.walks.+walking.Given as goal

abbrev pub decreases-walk_part : goal.decreases-walk_part
decreases-walk_part l = 3 * height l.part

abbrev pub decreases-walk_type : goal.decreases-walk_type
decreases-walk_type l = 3 * l.id + 2

abbrev pub decreases-walk_parts : goal.decreases-walk_parts
decreases-walk_parts l = 3 * l.id + 1

abbrev pub invariant-walk_parts-loop-part_index : goal.invariant-walk_parts-loop-part_index
invariant-walk_parts-loop-part_index l = WalkedSoFar l.wanted l.fn.walk l.walk l.part_index (part_values meeting l.types l.id)
