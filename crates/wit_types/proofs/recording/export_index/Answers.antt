use Rattle.std.proofs.Common.{Option, ℕ, subst, refl}
use Rattle.wit_types.specs.Denoting.{exported_or}
use Rattle.wit_types.proofs.Growing.{faithful_maybe, named_by, denotes_as}
use Rattle.wit_types.proofs.Adding.{maybe_adds}
use Rattle.wit_types.proofs.Stepping.{maybe_longer, maybe_denotes, maybe_same}
use Rattle.wit_types.proofs.recording.export_index.Goals as goal

pub returns-in_err-exported-clause-faithful : goal.returns-in_err-exported-clause-faithful
returns-in_err-exported-clause-faithful g c = faithful_maybe _ _ _ _ _ _ _ _ _ _ c.export_type.result _ c.requires.faithful c.export_type.ensures.makes c.export_type.ensures.setting c.export_type.ensures.maps (g.E.ValtypeEncoder.names_kept _ _ c.export_type.ensures.follows) (g.E.ValtypeEncoder.offers_kept _ _ c.export_type.ensures.follows)

pub returns-in-Some-clause-faithful : goal.returns-in-Some-clause-faithful
returns-in-Some-clause-faithful g c = faithful_maybe _ _ _ _ _ _ _ _ _ _ c.export_type.result _ c.requires.faithful c.export_type.ensures.makes c.export_type.ensures.setting c.export_type.ensures.maps (g.E.ValtypeEncoder.names_kept _ _ c.export_type.ensures.follows) (g.E.ValtypeEncoder.offers_kept _ _ c.export_type.ensures.follows)

pub returns-in-None-clause-faithful : goal.returns-in-None-clause-faithful
returns-in-None-clause-faithful g c = faithful_maybe _ _ _ _ _ _ _ _ _ _ c.export_type.result _ c.requires.faithful c.export_type.ensures.makes c.export_type.ensures.setting c.export_type.ensures.maps (g.E.ValtypeEncoder.names_kept _ _ c.export_type.ensures.follows) (g.E.ValtypeEncoder.offers_kept _ _ c.export_type.ensures.follows)

pub returns-in-Some-clause-named : goal.returns-in-Some-clause-named
returns-in-Some-clause-named g c =
    named_by _ c.args.types.now _ c.args.id c.args.name c.in-Some.index c.requires.same c.requires.named
    (subst (λ (o : Option ℕ). g.E.ValtypeEncoder.names c.export_type.new.self c.args.name (exported_or o c.args.defined)) c.in-Some.is c.in_ok-exported.ensures.names)

pub returns-in-None-clause-named : goal.returns-in-None-clause-named
returns-in-None-clause-named g c =
    named_by _ c.args.types.now _ c.args.id c.args.name c.args.defined c.requires.same c.requires.named
    (subst (λ (o : Option ℕ). g.E.ValtypeEncoder.names c.export_type.new.self c.args.name (exported_or o c.args.defined)) c.in-None.is c.in_ok-exported.ensures.names)

pub returns-in-Some-clause-adds : goal.returns-in-Some-clause-adds
returns-in-Some-clause-adds g c = maybe_adds _ _ c.in_ok-exported.exported _ _ c.in_ok-exported.ensures.makes c.requires.denotes.tree

pub returns-in-None-clause-adds : goal.returns-in-None-clause-adds
returns-in-None-clause-adds g c = maybe_adds _ _ c.in_ok-exported.exported _ _ c.in_ok-exported.ensures.makes c.requires.denotes.tree

pub returns-in_err-exported-clause-grows : goal.returns-in_err-exported-clause-grows
returns-in_err-exported-clause-grows g c = maybe_longer _ _ c.export_type.result _ c.export_type.ensures.makes

pub returns-in-Some-clause-grows : goal.returns-in-Some-clause-grows
returns-in-Some-clause-grows g c = maybe_longer _ _ c.export_type.result _ c.export_type.ensures.makes

pub returns-in-None-clause-grows : goal.returns-in-None-clause-grows
returns-in-None-clause-grows g c = maybe_longer _ _ c.export_type.result _ c.export_type.ensures.makes

pub returns-in-Some-clause-denotes : goal.returns-in-Some-clause-denotes
returns-in-Some-clause-denotes g c = maybe_denotes _ _ c.in_ok-exported.exported c.in-Some.index _ _ c.in_ok-exported.ensures.makes c.in-Some.is c.requires.denotes.tree

pub returns-in-None-clause-denotes : goal.returns-in-None-clause-denotes
returns-in-None-clause-denotes g c = denotes_as c.requires.denotes (maybe_same _ _ c.in_ok-exported.exported _ c.in_ok-exported.ensures.makes c.in-None.is) refl
