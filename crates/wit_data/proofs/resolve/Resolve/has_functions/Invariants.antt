use Rattle.std.proofs.Common.{◌↔◌}
use Rattle.std.specs.List.{AllByRecursion}
use Rattle.wit_data.specs.Sound.{HasFunction}
use Rattle.wit_data.proofs.resolve.Resolve.has_functions.Given as goal

abbrev pub invariant-loop-function : goal.invariant-loop-function
invariant-loop-function l =
    goal.iterator-loop-function.can_next l.function-iterator ×
    goal.iterator-loop-function.is_finite l.function-iterator ×
    (AllByRecursion (λ f. HasFunction l.self f.1) l.functions ↔ AllByRecursion (λ f. HasFunction l.self f.1) l.function-iterator)
