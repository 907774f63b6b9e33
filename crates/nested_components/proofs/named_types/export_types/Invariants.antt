use Rattle.std.proofs.Common.{◌≡◌}
use Rattle.nested_components.specs.Growing.{AreTablesRight}
use Rattle.nested_components.proofs.AllTypes.{AreTypesTo}
use Rattle.nested_components.specs.Resources.{AreResourcesImported}
use Rattle.nested_components.proofs.named_types.export_types.Given as goal

abbrev pub invariant-loop-name : goal.invariant-loop-name
invariant-loop-name g l =
    let e = l.fn.encoder in
    (goal.iterator-loop-name g).can_next l.name-iterator ×
    (goal.iterator-loop-name g).is_finite l.name-iterator ×
    record {
      so_far : AreTypesTo g.P.Placement.given g.P.Placement.origin e.home e.contents l.encoder.contents l.encoder.stage l.name-iterator;
      home : l.encoder.home ≡ e.home;
      imported : AreResourcesImported g.P.Placement.given g.P.Placement.origin l.encoder.home l.encoder.contents.items l.imported;
      right : AreTablesRight g.P.Placement.given g.P.Placement.origin l.encoder.home l.encoder.stage l.encoder.contents.items l.encoder.maps;
    }
