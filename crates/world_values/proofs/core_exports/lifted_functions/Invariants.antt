use Rattle.std.proofs.Common.{◌≡◌, []}
use Rattle.comp_roles.specs.Functions.{is_same_function}
use Rattle.world_values.specs.CoreExports.{lifted_functions}
use Rattle.world_values.specs.Tables.{with_all}
use Rattle.world_values.proofs.core_exports.lifted_functions.Given as goal

abbrev pub invariant-loop-export : goal.invariant-loop-export
invariant-loop-export l =
    goal.iterator-loop-export.can_next l.export-iterator ×
    goal.iterator-loop-export.is_finite l.export-iterator ×
    (with_all is_same_function l.abis (lifted_functions l.export-iterator) ≡ with_all is_same_function [] (lifted_functions l.exports))
