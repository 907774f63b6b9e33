use Rattle.std.proofs.Common.{◌≡◌, true}
use Rattle.std.specs.List.{AllByRecursion}
use Rattle.wit_data.specs.Sound.{HasFunction}
use Rattle.wit_types.specs.Allowing.{allows_function}
use Rattle.nested_components.specs.Functions.{functions_of}
use Rattle.nested_components.specs.Growing.{scope_of, AreTablesRight}
use Rattle.nested_components.specs.Homes.{nested_setting}
use Rattle.nested_components.proofs.AllFunctions.{AreExportedTo}
use Rattle.nested_components.proofs.passing.export_functions.Given as goal

abbrev pub invariant-loop-function : goal.invariant-loop-function
invariant-loop-function g l =
    let e = l.fn.encoder in
    (goal.iterator-loop-function g).can_next l.function-iterator ×
    (goal.iterator-loop-function g).is_finite l.function-iterator ×
    record {
      so_far : AreExportedTo g.P.Placement.given g.P.Placement.origin e.home.types (scope_of g.P.Placement.given e.contents.items).functions e.contents l.encoder.contents l.index (functions_of l.function-iterator) (functions_of l.functions);
      present : AllByRecursion (λ f. HasFunction l.resolve f.1) l.function-iterator;
      allowed : AllByRecursion (λ f. allows_function (nested_setting g.P.Placement.origin e.home e.stage) f ≡ true) (functions_of l.function-iterator);
      home : l.encoder.home ≡ e.home;
      stage : l.encoder.stage ≡ e.stage;
      right : AreTablesRight g.P.Placement.given g.P.Placement.origin e.home e.stage l.encoder.contents.items l.encoder.maps;
    }
