use Rattle.std.proofs.Common.{◌≡◌, ◌++◌, map}
use Rattle.comp_roles.specs.Borrowed.{core_import, field_imports}
use Rattle.comp_roles.proofs.imports.add_fields.Given as goal

abbrev pub invariant-loop-field : goal.invariant-loop-field
invariant-loop-field l =
    goal.iterator-loop-field.can_next l.field-iterator ×
    goal.iterator-loop-field.is_finite l.field-iterator ×
    (map core_import l.list.items ++ field_imports l.from l.field-iterator ≡ map core_import l.fn.list.items ++ field_imports l.from l.fields)
