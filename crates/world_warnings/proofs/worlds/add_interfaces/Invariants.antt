use Rattle.std.proofs.Common.{◌≡◌, ◌++◌}
use Rattle.std.specs.List.{flat_map}
use Rattle.world_warnings.specs.Worlds.{interface_warnings}
use Rattle.world_warnings.proofs.worlds.add_interfaces.Given as goal

abbrev pub invariant-loop-name : goal.invariant-loop-name
invariant-loop-name l =
    (goal.iterator-loop-name).can_next l.name-iterator ×
    (goal.iterator-loop-name).is_finite l.name-iterator ×
    (l.warnings ++ flat_map (interface_warnings l.facts l.path) l.name-iterator ≡ l.fn.warnings ++ flat_map (interface_warnings l.facts l.path) l.interfaces)
