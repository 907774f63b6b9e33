use Rattle.std.proofs.Common.{sym, ap, ◌∙◌, List, ℕ, Option}
use Rattle.wit_types.specs.Allowing.{may_export_as}
use Rattle.wit_types.proofs.Permitting.{may_export, owned_here, unnamed_resource}
use Rattle.wit_types.proofs.finding.export_resource.Goals as goal

pub export_resource_as-requires-clause-named : goal.export_resource_as-requires-clause-named
export_resource_as-requires-clause-named g c =
    let s = g.E.ValtypeEncoder.setting c.args.encoder.now in
    ap (λ (name : Option (List ℕ)). may_export_as s c.args.id.index name) (sym c.in-Some.is ∙ c.in_ok-name.ensures)
    ∙ may_export s c.args.types.now c.args.id c.requires.same c.requires.back c.requires.present c.requires.unmet c.requires.allowed c.requires.own c.requires.resource

pub unreachable-requires : goal.unreachable-requires
unreachable-requires g c =
    let s = g.E.ValtypeEncoder.setting c.args.encoder.now in
    unnamed_resource s c.args.id.index _ (sym c.in-None.is ∙ c.in_ok-name.ensures)
    (may_export s c.args.types.now c.args.id c.requires.same c.requires.back c.requires.present c.requires.unmet c.requires.allowed c.requires.own c.requires.resource)

pub export_resource_as-requires-clause-own : goal.export_resource_as-requires-clause-own
export_resource_as-requires-clause-own g c =
    owned_here (g.E.ValtypeEncoder.setting c.args.encoder.now) c.args.types.now c.args.id c.requires.same c.requires.back c.requires.present c.requires.unmet c.requires.allowed c.requires.own
