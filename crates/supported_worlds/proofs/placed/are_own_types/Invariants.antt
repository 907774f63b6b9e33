use Rattle.std.proofs.Common.{◌≡◌}
use Rattle.std.specs.List.{list_all}
use Rattle.supported_worlds.specs.Placed.{is_own_type}
use Rattle.supported_worlds.proofs.placed.are_own_types.Given as goal

abbrev pub invariant-loop-name : goal.invariant-loop-name
invariant-loop-name l =
    goal.iterator-loop-name.can_next l.name-iterator ×
    goal.iterator-loop-name.is_finite l.name-iterator ×
    (list_all (is_own_type l.types l.id) l.name-iterator ≡ list_all (is_own_type l.types l.id) l.listed)
