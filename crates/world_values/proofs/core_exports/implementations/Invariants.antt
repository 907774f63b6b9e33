use Rattle.std.proofs.Common.{◌≡◌, []}
use Rattle.comp_roles.specs.Functions.{is_same_function}
use Rattle.world_values.specs.CoreExports.{implementations}
use Rattle.world_values.specs.Tables.{with_all}
use Rattle.world_values.proofs.core_exports.implementations.Given as goal

abbrev pub invariant-loop-name : goal.invariant-loop-name
invariant-loop-name l =
    goal.iterator-loop-name.can_next l.name-iterator ×
    goal.iterator-loop-name.is_finite l.name-iterator ×
    (with_all is_same_function l.table (implementations l.name-iterator) ≡ with_all is_same_function [] (implementations l.exports))
