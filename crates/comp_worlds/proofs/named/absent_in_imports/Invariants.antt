use Rattle.std.proofs.Common.{◌≡◌}
use Rattle.comp_roles.specs.Lookups.{first_some}
use Rattle.comp_worlds.specs.Absent.{absent_in_group}
use Rattle.comp_worlds.proofs.named.absent_in_imports.Given as goal

abbrev pub invariant-loop-instance : goal.invariant-loop-instance
invariant-loop-instance g l =
    (goal.iterator-loop-instance g).can_next l.instance-iterator ×
    (goal.iterator-loop-instance g).is_finite l.instance-iterator ×
    (first_some (λ i. absent_in_group l.table i.1) l.instance-iterator ≡ first_some (λ i. absent_in_group l.table i.1) l.imports.modules)
