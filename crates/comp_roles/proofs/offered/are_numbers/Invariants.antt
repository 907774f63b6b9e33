use Rattle.std.proofs.Common.{◌≡◌, drop}
use Rattle.std.specs.List.{list_all}
use Rattle.comp_roles.specs.Matching.{is_number}
use Rattle.comp_roles.proofs.offered.are_numbers.Given as goal

abbrev pub invariant-loop-ty : goal.invariant-loop-ty
invariant-loop-ty l = list_all is_number (drop l.ty-index l.types) ≡ list_all is_number l.types
