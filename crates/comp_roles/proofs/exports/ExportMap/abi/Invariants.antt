use Rattle.std.proofs.Common.{◌≡◌}
use Rattle.comp_roles.specs.FunctionExports.{first_abi}
use Rattle.comp_roles.proofs.exports.ExportMap.abi.Given as goal

abbrev pub invariant-loop-export : goal.invariant-loop-export
invariant-loop-export l =
    goal.iterator-loop-export.can_next l.export-iterator ×
    goal.iterator-loop-export.is_finite l.export-iterator ×
    (first_abi l.key l.function.name l.export-iterator ≡ first_abi l.key l.function.name l.self.exports)
