use Rattle.std.proofs.Common.{◌≡◌}
use Rattle.std.specs.List.{flat_map, AllByRecursion}
use Rattle.wit_data.specs.Sound.{HasFunction}
use Rattle.comp_worlds.specs.Lowerings.{is_same_lowering}
use Rattle.world_values.specs.Tables.{with_all}
use Rattle.comp_worlds.specs.Uses.{used_in}
use Rattle.comp_worlds.specs.Imported.{function_lowerings}
use Rattle.world_tables.proofs.imported.add_functions.Given as goal

abbrev pub invariant-loop-function : goal.invariant-loop-function
invariant-loop-function l =
    goal.iterator-loop-function.can_next l.function-iterator ×
    goal.iterator-loop-function.is_finite l.function-iterator ×
    AllByRecursion (λ f. HasFunction l.resolve f.1) l.function-iterator ×
    (with_all is_same_lowering l.table (flat_map (λ f. function_lowerings (used_in l.uses) l.resolve.types l.key f.1) l.function-iterator) ≡ with_all is_same_lowering l.fn.table (flat_map (λ f. function_lowerings (used_in l.uses) l.resolve.types l.key f.1) l.functions))
