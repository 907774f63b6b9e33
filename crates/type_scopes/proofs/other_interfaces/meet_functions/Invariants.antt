use Rattle.std.proofs.Common.{◌≡◌}
use Rattle.std.specs.List.{AllByRecursion, flat_map}
use Rattle.wit_data.specs.Sound.{HasFunction}
use Rattle.type_scopes.specs.Foreign.{met_in_function, with_each, KnowsEntered}
use Rattle.type_scopes.specs.Interfaces.{used_among}
use Rattle.type_scopes.proofs.other_interfaces.meet_functions.Given as goal

abbrev pub invariant-loop-name : goal.invariant-loop-name
invariant-loop-name l =
    goal.iterator-loop-name.can_next l.name-iterator ×
    goal.iterator-loop-name.is_finite l.name-iterator ×
    (with_each l.met.types (flat_map (met_in_function l.resolve.types l.here) (used_among l.used l.name-iterator)) ≡ with_each l.fn.met.types (flat_map (met_in_function l.resolve.types l.here) (used_among l.used l.functions))) ×
    AllByRecursion (λ e. HasFunction l.resolve e.1) l.name-iterator ×
    KnowsEntered l.resolve.types l.here l.met
