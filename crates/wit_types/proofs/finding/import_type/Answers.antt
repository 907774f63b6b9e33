use Rattle.std.proofs.Common.{ap, refl, ◌∙◌, sym}
use Rattle.wit_types.specs.Settings.{Setting, owner_at}
use Rattle.wit_types.specs.Allowing.{foreign}
use Rattle.wit_types.proofs.Adding.{one_as, type_added}
use Rattle.wit_types.proofs.Growing.{longer_one, faithful_after, named_foreign, longer_on, longer_same, denotes_as, named_in}
use Rattle.wit_types.proofs.finding.import_type.Goals as goal

pub returns-in_err-index-clause-faithful : goal.returns-in_err-index-clause-faithful
returns-in_err-index-clause-faithful g c = faithful_after _ _ _ _ _ _ _ _ _ _ c.requires.faithful c.in_err-index.ensures.makes c.in_err-index.ensures.setting c.in_err-index.ensures.maps (g.E.ValtypeEncoder.names_kept _ _ c.in_err-index.ensures.follows) (g.E.ValtypeEncoder.offers_kept _ _ c.in_err-index.ensures.follows)

pub record_type-requires-clause-faithful : goal.record_type-requires-clause-faithful
record_type-requires-clause-faithful g c = faithful_after _ _ _ _ _ _ _ _ _ _ c.requires.faithful (longer_one c.in_ok-index.ensures.makes.0) c.in_ok-index.ensures.setting c.in_ok-index.ensures.maps (g.E.ValtypeEncoder.names_kept _ _ c.in_ok-index.ensures.follows) (g.E.ValtypeEncoder.offers_kept _ _ c.in_ok-index.ensures.follows)

pub record_type-requires-clause-named : goal.record_type-requires-clause-named
record_type-requires-clause-named g c =
    named_foreign _ c.args.types.now _ c.args.id c.in_ok-index.index c.args.interface (ap (λ (s : Setting). s.types) c.in_ok-index.ensures.setting ∙ c.requires.same)
    (ap (λ (s : Setting). foreign s.interface (owner_at c.args.types.now c.args.id.index)) c.in_ok-index.ensures.setting ∙ c.requires.foreign)

pub returns-clause-follows : goal.returns-clause-follows
returns-clause-follows g c = g.E.ValtypeEncoder.follows_on _ _ _ c.in_ok-index.ensures.follows c.record_type.ensures.follows

pub returns-clause-adds : goal.returns-clause-adds
returns-clause-adds g c = type_added _ _ _ _ refl (one_as c.in_ok-index.ensures.makes.0 c.record_type.ensures.scope)

pub returns-in_err-record_type-clause-grows : goal.returns-in_err-record_type-clause-grows
returns-in_err-record_type-clause-grows g c = longer_on (longer_one c.in_ok-index.ensures.makes.0) (longer_same c.record_type.ensures.scope)

pub returns-in_err-record_type-clause-setting : goal.returns-in_err-record_type-clause-setting
returns-in_err-record_type-clause-setting g c = c.record_type.ensures.setting ∙ c.in_ok-index.ensures.setting

pub returns-in_err-record_type-clause-follows : goal.returns-in_err-record_type-clause-follows
returns-in_err-record_type-clause-follows g c = g.E.ValtypeEncoder.follows_on _ _ _ c.in_ok-index.ensures.follows c.record_type.ensures.follows

pub returns-clause-denotes : goal.returns-clause-denotes
returns-clause-denotes g c = denotes_as c.in_ok-index.ensures.makes.1 c.record_type.ensures.scope refl

pub returns-clause-named : goal.returns-clause-named
returns-clause-named g c = named_in _ _ _ c.args.id c.in_ok-index.index (sym c.in_ok-index.ensures.setting) c.record_type.ensures.named

pub returns-clause-grows : goal.returns-clause-grows
returns-clause-grows g c = longer_on (longer_one c.in_ok-index.ensures.makes.0) (longer_same c.record_type.ensures.scope)

pub returns-clause-setting : goal.returns-clause-setting
returns-clause-setting g c = c.record_type.ensures.setting ∙ c.in_ok-index.ensures.setting
