use Rattle.std.proofs.Common.{◌≡◌, map}
use Rattle.record_values.specs.contracts.roles.ExportRolePartialEq.TheImpl as roles
use Rattle.record_merge.specs.Tables.{apart}
use Rattle.record_merge.specs.ModuleRecords.{without_abi, one_field_each}
use Rattle.record_merge.proofs.assigning.check_fields.Given as goal

abbrev pub invariant-loop-field : goal.invariant-loop-field
invariant-loop-field l =
    (goal.iterator-loop-field).can_next l.field-iterator ×
    (goal.iterator-loop-field).is_finite l.field-iterator ×
    (apart roles.eq-value.it (λ e. e.1) l.fields (map (λ e. (without_abi e.1, e.0)) l.field-iterator) ≡ one_field_each roles.eq-value.it l.roles)
