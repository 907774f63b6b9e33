use Rattle.std.proofs.Common.{◌≡◌, true}
use Rattle.std.specs.List.{AllByRecursion}
use Rattle.wit_data.specs.Sound.{HasFunction}
use Rattle.foreign_types.specs.Foreign.{is_function_covered}
use Rattle.foreign_types.specs.Walking.{IsWalk, FunctionPasses}
use Rattle.foreign_types.proofs.Walking.{EntriesTo}
use Rattle.foreign_types.proofs.interface.meet_functions.Given as goal

abbrev pub invariant-loop-function : goal.invariant-loop-function
invariant-loop-function l =
    goal.iterator-loop-function.can_next l.function-iterator ×
    goal.iterator-loop-function.is_finite l.function-iterator ×
    record {
      right : IsWalk l.resolve.types l.here l.walk;
      so_far : EntriesTo l.resolve.types (λ ids e. is_function_covered l.resolve.types l.here ids e.1 ≡ true) (λ e test. FunctionPasses l.resolve.types e.1 test) l.functions l.function-iterator l.fn.walk.listed l.walk.listed;
      present : AllByRecursion (λ e. HasFunction l.resolve e.1) l.function-iterator;
    }
