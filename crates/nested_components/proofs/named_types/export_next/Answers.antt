use Rattle.std.proofs.Common.{refl, sym, subst}
use Rattle.nested_components.specs.Growing.{AreTablesRight}
use Rattle.nested_components.proofs.OneFunction.{tables_as}
use Rattle.nested_components.proofs.OneType.{right_passed}
use Rattle.nested_components.proofs.named_types.export_next.Goals as goal

pub returns-clause-right : goal.returns-clause-right
returns-clause-right g c =
    let given = g.P.Placement.given in
    let origin = g.P.Placement.origin in
    let e = c.args.encoder.now in
    let m = c.export_type.new.encoder in
    let of = c.in_ok-export_type.ensures in
    subst (λ x. AreTablesRight given origin x.home x.stage x.contents.items x.maps) (sym c.pass.ensures)
    (tables_as given origin m.home e.home _ _ m.contents.items m.maps (sym of.home) refl
    (right_passed given origin e.home e.stage c.args.id m.contents.items m.maps c.requires.stage c.requires.next of.recorded (tables_as given origin e.home m.home e.stage m.stage m.contents.items m.maps of.home of.stage of.right)))
