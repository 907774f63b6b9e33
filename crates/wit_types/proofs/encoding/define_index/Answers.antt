use Rattle.std.proofs.Common.{refl, ◌∙◌}
use Rattle.wit_types.proofs.Adding.{result_then}
use Rattle.wit_types.proofs.Growing.{longer_on}
use Rattle.wit_types.proofs.encoding.define_index.Goals as goal

pub returns-clause-follows : goal.returns-clause-follows
returns-clause-follows g c = g.E.ValtypeEncoder.follows_on _ _ _ c.in_ok-value.ensures.follows c.index_of.ensures.follows

pub returns-clause-adds : goal.returns-clause-adds
returns-clause-adds g c = result_then _ _ _ c.index_of.result _ _ c.in_ok-value.ensures.adds refl (c.index_of.ensures.adds _ c.in_ok-value.ensures.value)

pub returns-clause-denotes : goal.returns-clause-denotes
returns-clause-denotes g c = c.index_of.ensures.denotes _ c.in_ok-value.ensures.value

pub returns-clause-grows : goal.returns-clause-grows
returns-clause-grows g c = longer_on c.in_ok-value.ensures.grows c.index_of.ensures.grows

pub returns-clause-setting : goal.returns-clause-setting
returns-clause-setting g c = c.index_of.ensures.setting ∙ c.in_ok-value.ensures.setting
