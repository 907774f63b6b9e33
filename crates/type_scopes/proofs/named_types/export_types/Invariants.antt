use Rattle.std.specs.Prelude.{◌≡◌, take}
use Rattle.type_scopes.specs.Interfaces.{IsRight, AreExported}
use Rattle.type_scopes.proofs.named_types.export_types.Given as goal

abbrev pub invariant-loop-n : goal.invariant-loop-n
invariant-loop-n g l =
    record {
      passed : l.encoder.passed.now ≡ take l.n l.ids;
      outer : l.encoder.outer ≡ l.fn.encoder.outer;
      interface : l.encoder.interface ≡ l.fn.encoder.interface;
      exported : AreExported g.P.Placement.surroundings g.P.Placement.origin l.fn.encoder.outer l.fn.encoder.interface (take l.n l.ids) l.encoder.members;
      right : IsRight g.P.Placement.surroundings g.P.Placement.origin l.fn.encoder.outer l.fn.encoder.interface (take l.n l.ids) l.encoder.members l.encoder.maps;
    }
