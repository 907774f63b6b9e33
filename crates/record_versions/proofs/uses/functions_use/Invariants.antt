use Rattle.std.proofs.Common.{◌≡◌, ◌++◌, drop}
use Rattle.record_versions.specs.Uses.{of_functions}
use Rattle.record_versions.proofs.uses.functions_use.Given as goal

abbrev pub invariant-loop-function : goal.invariant-loop-function
invariant-loop-function l = l.names ++ of_functions (drop l.function-index l.functions) ≡ of_functions l.functions
