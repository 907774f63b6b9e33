use Rattle.std.proofs.Common.{Some}
use Rattle.world_tables.specs.Walking.{IsWalk}
use Rattle.world_tables.proofs.Walking.{AreMet}
use Rattle.world_tables.proofs.meeting.meet_given.Given as goal

abbrev pub invariant-loop-given_type : goal.invariant-loop-given_type
invariant-loop-given_type l = IsWalk l.types l.walk × AreMet l.types (λ t. Some t) l.given l.fn.walk l.walk l.given_type-index
