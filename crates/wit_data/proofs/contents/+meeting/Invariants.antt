use Rattle.std.proofs.Common.{◌+◌, ◌*◌}
use Rattle.wit_data.specs.Values.{part_values}
use Rattle.wit_data.specs.Contents.{finding_texts, finding_lists}
use Rattle.wit_data.specs.Parts.{height}
use Rattle.wit_data.proofs.Meeting.{MetSoFar}
use Rattle.wit_data.proofs.contents.+meeting.Given as goal

abbrev pub decreases-met_in : goal.decreases-met_in
decreases-met_in l = 3 * height l.part

abbrev pub decreases-met_in_kind : goal.decreases-met_in_kind
decreases-met_in_kind l = 3 * l.id + 2

abbrev pub decreases-met_in_parts : goal.decreases-met_in_parts
decreases-met_in_parts l = 3 * l.id + 1

abbrev pub invariant-met_in_parts-loop-n : goal.invariant-met_in_parts-loop-n
invariant-met_in_parts-loop-n l = MetSoFar l.fn.before.text l.met.text l.n (part_values finding_texts l.types l.id) × MetSoFar l.fn.before.list l.met.list l.n (part_values finding_lists l.types l.id)
