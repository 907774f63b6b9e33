use Rattle.std.proofs.Common.{◌≡◌, map}
use Rattle.record_exports.specs.Functions.{known_by}
use Rattle.record_exports.specs.Requiring.{all_there}
use Rattle.record_exports.proofs.requiring.check_functions.Given as goal

abbrev pub invariant-loop-function : goal.invariant-loop-function
invariant-loop-function l =
    (goal.iterator-loop-function).can_next l.function-iterator ×
    (goal.iterator-loop-function).is_finite l.function-iterator ×
    (all_there (known_by l.functions) l.key (map (λ e. e.1.name) l.function-iterator) ≡ all_there (known_by l.functions) l.key (map (λ e. e.1.name) l.all))
