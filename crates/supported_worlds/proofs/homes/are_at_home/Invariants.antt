use Rattle.std.proofs.Common.{◌≡◌, drop, Some}
use Rattle.std.specs.List.{list_all}
use Rattle.supported_worlds.specs.Homes.{fits, home_at}
use Rattle.supported_worlds.proofs.homes.are_at_home.Given as goal

abbrev pub invariant-loop-ty : goal.invariant-loop-ty
invariant-loop-ty l = list_all (λ t. fits l.here (home_at l.homes (Some t))) (drop l.ty-index l.types) ≡ list_all (λ t. fits l.here (home_at l.homes (Some t))) l.types
