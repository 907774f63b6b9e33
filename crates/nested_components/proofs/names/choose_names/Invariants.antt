use Rattle.std.proofs.Common.{◌≡◌, map}
use Rattle.nested_components.specs.Growing.{function_entry}
use Rattle.nested_components.proofs.Naming.{AreNamedTo}
use Rattle.nested_components.proofs.names.choose_names.Given as goal

abbrev pub invariant-loop-function : goal.invariant-loop-function
invariant-loop-function l =
    goal.iterator-loop-function.can_next l.function-iterator ×
    goal.iterator-loop-function.is_finite l.function-iterator ×
    record {
      same : l.taken ≡ map function_entry l.names;
      named : AreNamedTo l.names l.function-iterator l.functions;
    }
