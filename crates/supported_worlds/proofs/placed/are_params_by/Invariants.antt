use Rattle.std.proofs.Common.{◌≡◌, drop, Some}
use Rattle.std.specs.List.{list_all}
use Rattle.supported_worlds.specs.Placed.{is_by}
use Rattle.supported_worlds.proofs.placed.are_params_by.Given as goal

abbrev pub invariant-loop-param : goal.invariant-loop-param
invariant-loop-param l = list_all (λ p. is_by l.places l.last (Some p.ty)) (drop l.param-index l.params) ≡ list_all (λ p. is_by l.places l.last (Some p.ty)) l.params
