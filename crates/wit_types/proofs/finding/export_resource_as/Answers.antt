use Rattle.std.proofs.Common.{ap, sym, refl, ◌∙◌, Some}
use Rattle.comp_trees.specs.DefinedTrees.{OfValues}
use Rattle.wit_data.specs.declared.types.Type.TheVariants.{Id}
use Rattle.wit_types.specs.Settings.{Setting, tree_in}
use Rattle.wit_types.proofs.Adding.{one_as, type_added}
use Rattle.wit_types.proofs.Growing.{longer_one, faithful_after, denotes_as, named_by, longer_on, longer_same, named_in}
use Rattle.wit_types.proofs.Permitting.{named_resource, names_resource, resource_tree}
use Rattle.wit_types.proofs.finding.export_resource_as.Goals as goal

pub export_resource-requires-clause-may : goal.export_resource-requires-clause-may
export_resource-requires-clause-may g c = (named_resource (g.E.ValtypeEncoder.setting c.args.encoder.now) c.args.id.index c.args.name c.requires.named).0

pub export_resource-requires-clause-named : goal.export_resource-requires-clause-named
export_resource-requires-clause-named g c =
    names_resource (g.E.ValtypeEncoder.setting c.args.encoder.now) c.args.types.now c.args.id c.args.name c.requires.same c.requires.back c.requires.present c.requires.resource c.requires.title c.requires.own c.requires.named

pub returns-in_err-index-clause-faithful : goal.returns-in_err-index-clause-faithful
returns-in_err-index-clause-faithful g c = faithful_after _ _ _ _ _ _ _ _ _ _ c.requires.faithful c.in_err-index.ensures.makes c.in_err-index.ensures.setting c.in_err-index.ensures.maps (g.E.ValtypeEncoder.names_kept _ _ c.in_err-index.ensures.follows) (g.E.ValtypeEncoder.offers_kept _ _ c.in_err-index.ensures.follows)

pub record_type-requires-clause-faithful : goal.record_type-requires-clause-faithful
record_type-requires-clause-faithful g c = faithful_after _ _ _ _ _ _ _ _ _ _ c.requires.faithful (longer_one c.in_ok-index.ensures.makes.0) c.in_ok-index.ensures.setting c.in_ok-index.ensures.maps (g.E.ValtypeEncoder.names_kept _ _ c.in_ok-index.ensures.follows) (g.E.ValtypeEncoder.offers_kept _ _ c.in_ok-index.ensures.follows)

pub record_type-requires-clause-denotes : goal.record_type-requires-clause-denotes
record_type-requires-clause-denotes g c =
    let s = g.E.ValtypeEncoder.setting c.args.encoder.now in
    denotes_as c.in_ok-index.ensures.makes.1 refl
    (ap OfValues (resource_tree s c.args.types.now c.args.id (s.resource c.args.name) c.requires.same c.requires.back c.requires.present c.requires.resource (named_resource s c.args.id.index c.args.name c.requires.named).1)
    ∙ ap (λ (r : Setting). OfValues (tree_in r (Some (Id c.args.id)))) (sym c.in_ok-index.ensures.setting))

pub returns-clause-denotes : goal.returns-clause-denotes
returns-clause-denotes g c =
    let s = g.E.ValtypeEncoder.setting c.args.encoder.now in
    denotes_as c.in_ok-index.ensures.makes.1 c.record_type.ensures.scope
    (ap OfValues (resource_tree s c.args.types.now c.args.id (s.resource c.args.name) c.requires.same c.requires.back c.requires.present c.requires.resource (named_resource s c.args.id.index c.args.name c.requires.named).1))

pub record_type-requires-clause-named : goal.record_type-requires-clause-named
record_type-requires-clause-named g c =
    named_by _ c.args.types.now _ c.args.id c.args.name c.in_ok-index.index (ap (λ (s : Setting). s.types) c.in_ok-index.ensures.setting ∙ c.requires.same) c.requires.title c.in_ok-index.ensures.names

pub returns-in_err-record_type-clause-follows : goal.returns-in_err-record_type-clause-follows
returns-in_err-record_type-clause-follows g c = g.E.ValtypeEncoder.follows_on _ _ _ c.in_ok-index.ensures.follows c.record_type.ensures.follows

pub returns-clause-adds : goal.returns-clause-adds
returns-clause-adds g c =
    let s = g.E.ValtypeEncoder.setting c.args.encoder.now in
    type_added _ _ _ _
    (resource_tree s c.args.types.now c.args.id (s.resource c.args.name) c.requires.same c.requires.back c.requires.present c.requires.resource (named_resource s c.args.id.index c.args.name c.requires.named).1)
    (one_as c.in_ok-index.ensures.makes.0 c.record_type.ensures.scope)

pub returns-in_err-index-clause-grows : goal.returns-in_err-index-clause-grows
returns-in_err-index-clause-grows g c = c.in_err-index.ensures.makes

pub returns-in_err-record_type-clause-grows : goal.returns-in_err-record_type-clause-grows
returns-in_err-record_type-clause-grows g c = longer_on (longer_one c.in_ok-index.ensures.makes.0) (longer_same c.record_type.ensures.scope)

pub returns-in_err-record_type-clause-setting : goal.returns-in_err-record_type-clause-setting
returns-in_err-record_type-clause-setting g c = c.record_type.ensures.setting ∙ c.in_ok-index.ensures.setting

pub returns-clause-grows : goal.returns-clause-grows
returns-clause-grows g c = longer_on (longer_one c.in_ok-index.ensures.makes.0) (longer_same c.record_type.ensures.scope)

pub returns-clause-setting : goal.returns-clause-setting
returns-clause-setting g c = c.record_type.ensures.setting ∙ c.in_ok-index.ensures.setting

pub returns-clause-follows : goal.returns-clause-follows
returns-clause-follows g c = g.E.ValtypeEncoder.follows_on _ _ _ c.in_ok-index.ensures.follows c.record_type.ensures.follows

pub returns-clause-named : goal.returns-clause-named
returns-clause-named g c = named_in _ _ _ c.args.id c.in_ok-index.index (sym c.in_ok-index.ensures.setting) c.record_type.ensures.named
