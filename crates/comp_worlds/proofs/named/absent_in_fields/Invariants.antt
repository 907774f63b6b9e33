use Rattle.std.proofs.Common.{◌≡◌}
use Rattle.comp_roles.specs.Lookups.{first_some}
use Rattle.comp_worlds.specs.Absent.{absent_item}
use Rattle.comp_worlds.proofs.named.absent_in_fields.Given as goal

abbrev pub invariant-loop-import : goal.invariant-loop-import
invariant-loop-import g l =
    (goal.iterator-loop-import g).can_next l.import-iterator ×
    (goal.iterator-loop-import g).is_finite l.import-iterator ×
    (first_some (λ f. absent_item l.table f.1) l.import-iterator ≡ first_some (λ f. absent_item l.table f.1) l.fields)
