use Rattle.std.proofs.Common.{◌≡◌, ◌++◌}
use Rattle.std.specs.List.{flat_map}
use Rattle.world_values.specs.Mentions.{function_types}
use Rattle.world_tables.proofs.mentions.add_functions.Given as goal

abbrev pub invariant-loop-function : goal.invariant-loop-function
invariant-loop-function l =
    goal.iterator-loop-function.can_next l.function-iterator ×
    goal.iterator-loop-function.is_finite l.function-iterator ×
    (l.list.items ++ flat_map (λ f. function_types f.1) l.function-iterator ≡ l.fn.list.items ++ flat_map (λ f. function_types f.1) l.functions)
