use Rattle.std.proofs.Common.{◌≡◌, drop}
use Rattle.world_names.specs.WorldNames.{with_functions}
use Rattle.world_names.proofs.tables.add_functions.Given as goal

abbrev pub invariant-loop-function : goal.invariant-loop-function
invariant-loop-function l = with_functions l.table l.interface (drop l.function-index l.functions) ≡ with_functions l.fn.table l.interface l.functions
