use Rattle.std.proofs.Common.{◌≡◌, true}
use Rattle.std.specs.List.{AllByRecursion}
use Rattle.wit_data.specs.Sound.{HasFunction}
use Rattle.wit_types.specs.Allowing.{allows_function}
use Rattle.type_scopes.specs.Offers.{placed}
use Rattle.type_scopes.specs.Interfaces.{IsRight, used_among}
use Rattle.type_scopes.proofs.Exporting.{FunctionsSoFar}
use Rattle.type_scopes.proofs.functions.encode_functions.Given as goal

abbrev pub invariant-loop-name : goal.invariant-loop-name
invariant-loop-name g l =
    (goal.iterator-loop-name g).can_next l.name-iterator ×
    (goal.iterator-loop-name g).is_finite l.name-iterator ×
    record {
      so_far : FunctionsSoFar (placed g.P.Placement.surroundings g.P.Placement.origin l.fn.encoder.outer l.fn.encoder.interface l.fn.encoder.passed.now) g.P.Placement.surroundings l.used l.fn.encoder.members l.encoder.members l.functions l.name-iterator;
      present : AllByRecursion (λ e. HasFunction l.resolve e.1) l.name-iterator;
      allowed : AllByRecursion (λ f. allows_function (placed g.P.Placement.surroundings g.P.Placement.origin l.fn.encoder.outer l.fn.encoder.interface l.fn.encoder.passed.now) f ≡ true) (used_among l.used l.name-iterator);
      setting : placed g.P.Placement.surroundings g.P.Placement.origin l.encoder.outer l.encoder.interface l.encoder.passed.now ≡ placed g.P.Placement.surroundings g.P.Placement.origin l.fn.encoder.outer l.fn.encoder.interface l.fn.encoder.passed.now;
      same : l.encoder.outer.types ≡ l.resolve.types;
      right : IsRight g.P.Placement.surroundings g.P.Placement.origin l.encoder.outer l.encoder.interface l.encoder.passed.now l.encoder.members l.encoder.maps;
    }
