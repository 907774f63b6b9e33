use Rattle.std.proofs.Common.{◌≡◌, ◌++◌, [], drop, map}
use Rattle.serde_json.specs.View.{view}
use Rattle.record_texts.specs.ImportRoles.{core_import_data}
use Rattle.record_texts.proofs.import_roles.core_import_values.Given as goal

abbrev pub invariant-loop-name : goal.invariant-loop-name
invariant-loop-name l =
    (goal.iterator-loop-name).can_next l.name-iterator ×
    (goal.iterator-loop-name).is_finite l.name-iterator ×
    (map view l.values.items ++ map (core_import_data l.indices) l.name-iterator ≡ map (core_import_data l.indices) l.roles)
