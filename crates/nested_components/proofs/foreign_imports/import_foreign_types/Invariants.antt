use Rattle.std.proofs.Common.{◌≡◌}
use Rattle.nested_components.specs.Growing.{AreTablesRight}
use Rattle.nested_components.proofs.ForeignTypes.{ImportedTo}
use Rattle.nested_components.proofs.foreign_imports.import_foreign_types.Given as goal

abbrev pub invariant-loop-import : goal.invariant-loop-import
invariant-loop-import g l =
    let e = l.fn.encoder in
    record {
      so_far : ImportedTo g.P.Placement.given g.P.Placement.origin e.home e.stage e.contents l.imports l.import-index l.encoder.home l.encoder.contents;
      stage : l.encoder.stage ≡ e.stage;
      right : AreTablesRight g.P.Placement.given g.P.Placement.origin l.encoder.home l.encoder.stage l.encoder.contents.items l.encoder.maps;
    }
