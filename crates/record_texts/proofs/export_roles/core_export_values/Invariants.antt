use Rattle.std.proofs.Common.{◌≡◌, ◌++◌, [], drop, map}
use Rattle.serde_json.specs.View.{view}
use Rattle.record_texts.specs.ExportRoles.{core_export_data}
use Rattle.record_texts.proofs.export_roles.core_export_values.Given as goal

abbrev pub invariant-loop-field : goal.invariant-loop-field
invariant-loop-field l =
    (goal.iterator-loop-field).can_next l.field-iterator ×
    (goal.iterator-loop-field).is_finite l.field-iterator ×
    (map view l.values.items ++ map (core_export_data l.indices) l.field-iterator ≡ map (core_export_data l.indices) l.roles)
