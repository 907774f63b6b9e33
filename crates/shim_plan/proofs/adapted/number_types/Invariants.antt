use Rattle.std.proofs.Common.{◌≡◌, ◌++◌, map, drop}
use Rattle.shim_plan.specs.Adapted.{number_type}
use Rattle.shim_plan.proofs.adapted.number_types.Given as goal

abbrev pub invariant-loop-ty : goal.invariant-loop-ty
invariant-loop-ty l = l.list ++ map number_type (drop l.ty-index l.types) ≡ map number_type l.types
