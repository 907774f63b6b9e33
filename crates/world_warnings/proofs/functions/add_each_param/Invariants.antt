use Rattle.std.proofs.Common.{◌≡◌, ◌++◌, take}
use Rattle.std.specs.List.{flat_map}
use Rattle.world_warnings.specs.Functions.{param_warnings}
use Rattle.world_warnings.proofs.functions.add_each_param.Given as goal

abbrev pub invariant-loop-param : goal.invariant-loop-param
invariant-loop-param l = l.warnings ≡ l.fn.warnings ++ flat_map (param_warnings l.resources l.path) (take l.param-index l.params)
