use Rattle.std.proofs.Common.{Some}
use Rattle.wit_data.specs.declared.functions.Param.{Param}
use Rattle.foreign_types.specs.Walking.{IsWalk}
use Rattle.foreign_types.proofs.Walking.{MetTo}
use Rattle.foreign_types.proofs.interface.meet_params.Given as goal

abbrev pub invariant-loop-n : goal.invariant-loop-n
invariant-loop-n l = IsWalk l.types l.here l.walk × ((d : Param) → MetTo l.types l.here (λ p. Some p.ty) l.params d l.fn.walk.listed l.walk.listed l.n)
