use Rattle.std.proofs.Common.{◌≡◌}
use Rattle.record_import_roles.specs.Payloads.{with_interfaces}
use Rattle.record_import_roles.proofs.payloads.add_interfaces.Given as goal

abbrev pub invariant-loop-name : goal.invariant-loop-name
invariant-loop-name l =
    (goal.iterator-loop-name).can_next l.name-iterator ×
    (goal.iterator-loop-name).is_finite l.name-iterator ×
    (with_interfaces l.met l.name-iterator ≡ with_interfaces l.fn.met l.interfaces)
