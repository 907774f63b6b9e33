use Rattle.std.proofs.Common.{◌∙◌, sym, subst}
use Rattle.nested_components.specs.Growing.{AreTablesRight}
use Rattle.nested_components.proofs.OwnResources.{right_owned}
use Rattle.nested_components.proofs.resources.import_resource.Goals as goal

pub returns-clause-right : goal.returns-clause-right
returns-clause-right g c =
    let given = g.P.Placement.given in
    let origin = g.P.Placement.origin in
    let m = c.record_resource.new.encoder in
    let of = c.in_ok-record_resource.ensures in
    subst (λ x. AreTablesRight given origin x.home x.stage x.contents.items x.maps) (sym c.in_ok-pass_resource.ensures)
    (right_owned given origin m.home m.stage c.args.import.now.id m.contents.items m.maps (of.stage ∙ c.requires.stage) of.recorded of.right)
