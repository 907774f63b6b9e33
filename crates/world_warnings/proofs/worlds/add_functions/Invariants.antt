use Rattle.std.proofs.Common.{◌≡◌, ◌++◌, take}
use Rattle.std.specs.List.{flat_map}
use Rattle.world_warnings.specs.Worlds.{named_function_warnings}
use Rattle.world_warnings.proofs.worlds.add_functions.Given as goal

abbrev pub invariant-loop-function : goal.invariant-loop-function
invariant-loop-function l = l.warnings ≡ l.fn.warnings ++ flat_map (named_function_warnings l.facts l.owner l.path) (take l.function-index l.functions)
