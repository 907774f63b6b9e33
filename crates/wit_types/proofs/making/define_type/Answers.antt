use Rattle.wit_types.proofs.Growing.{faithful_then}
use Rattle.wit_types.proofs.Adding.{made_adds}
use Rattle.wit_types.proofs.making.define_type.Goals as goal

pub returns-clause-faithful : goal.returns-clause-faithful
returns-clause-faithful g c = faithful_then _ _ _ _ _ _ _ _ _ _ c.defined_type.result _ c.requires.faithful c.defined_type.ensures.makes c.defined_type.ensures.setting c.defined_type.ensures.maps (g.E.ValtypeEncoder.names_kept _ _ c.defined_type.ensures.follows) (g.E.ValtypeEncoder.offers_kept _ _ c.defined_type.ensures.follows)

pub returns-clause-adds : goal.returns-clause-adds
returns-clause-adds g c = made_adds _ _ c.defined_type.result _ c.defined_type.ensures.makes
