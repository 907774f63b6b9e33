use Rattle.std.proofs.Common.{◌≡◌, ◌++◌}
use Rattle.std.specs.List.{flat_map}
use Rattle.module_warnings.specs.Roles.{field_warnings}
use Rattle.module_warnings.proofs.roles.add_each_export.Given as goal

abbrev pub invariant-loop-field : goal.invariant-loop-field
invariant-loop-field l =
    (goal.iterator-loop-field).can_next l.field-iterator ×
    (goal.iterator-loop-field).is_finite l.field-iterator ×
    (l.warnings ++ flat_map (field_warnings l.exports l.functions l.path) l.field-iterator ≡ l.fn.warnings ++ flat_map (field_warnings l.exports l.functions l.path) l.roles)
