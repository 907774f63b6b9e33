use Rattle.std.proofs.Common.{◌≡◌, ◌++◌}
use Rattle.std.specs.List.{flat_map}
use Rattle.module_warnings.specs.Roles.{import_warnings}
use Rattle.module_warnings.proofs.roles.add_each_import.Given as goal

abbrev pub invariant-loop-name : goal.invariant-loop-name
invariant-loop-name l =
    (goal.iterator-loop-name).can_next l.name-iterator ×
    (goal.iterator-loop-name).is_finite l.name-iterator ×
    (l.warnings ++ flat_map (import_warnings l.there l.path) l.name-iterator ≡ l.fn.warnings ++ flat_map (import_warnings l.there l.path) l.roles)
