use Rattle.std.proofs.Common.{◌≡◌}
use Rattle.comp_roles.specs.Lookups.{memory_of_fields}
use Rattle.comp_roles.proofs.imports.memory_in.Given as goal

abbrev pub invariant-loop-import : goal.invariant-loop-import
invariant-loop-import l =
    goal.iterator-loop-import.can_next l.import-iterator ×
    goal.iterator-loop-import.is_finite l.import-iterator ×
    (memory_of_fields l.import-iterator ≡ memory_of_fields l.fields)
