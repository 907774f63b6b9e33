use Rattle.std.proofs.Common.{◌≡◌}
use Rattle.std.specs.List.{list_all}
use Rattle.supported_worlds.specs.Placed.{is_function_placed}
use Rattle.supported_worlds.proofs.placed.are_functions_placed.Given as goal

abbrev pub invariant-loop-function : goal.invariant-loop-function
invariant-loop-function l =
    goal.iterator-loop-function.can_next l.function-iterator ×
    goal.iterator-loop-function.is_finite l.function-iterator ×
    (list_all (λ f. is_function_placed l.places l.last f.1) l.function-iterator ≡ list_all (λ f. is_function_placed l.places l.last f.1) l.functions)
