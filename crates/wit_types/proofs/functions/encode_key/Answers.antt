use Rattle.wit_types.proofs.Ordering.{function_to}
use Rattle.std.proofs.Common.{ap, refl, sym, ◌∙◌}
use Rattle.wit_types.proofs.Growing.{longer_on, longer_same, denotes_as}
use Rattle.comp_trees.specs.DefinedTrees.{OfFunctions}
use Rattle.wit_types.specs.Settings.{Setting}
use Rattle.wit_types.specs.Maps.{key_tree}
use Rattle.wit_types.proofs.functions.encode_key.Goals as goal

pub returns-in_err-record_function-clause-follows : goal.returns-in_err-record_function-clause-follows
returns-in_err-record_function-clause-follows g c = g.E.ValtypeEncoder.follows_on _ _ _ c.in_ok-index.ensures.follows c.record_function.ensures.follows

pub returns-clause-adds : goal.returns-clause-adds
returns-clause-adds g c = function_to c.in_ok-index.ensures.adds c.record_function.ensures.scope

pub record_function-requires-clause-denotes : goal.record_function-requires-clause-denotes
record_function-requires-clause-denotes g c = denotes_as c.in_ok-index.ensures.denotes refl (ap (λ (s : Setting). OfFunctions (key_tree s c.args.key)) (sym c.in_ok-index.ensures.setting))

pub returns-in_err-record_function-clause-grows : goal.returns-in_err-record_function-clause-grows
returns-in_err-record_function-clause-grows g c = longer_on c.in_ok-index.ensures.grows (longer_same c.record_function.ensures.scope)

pub returns-in_err-record_function-clause-setting : goal.returns-in_err-record_function-clause-setting
returns-in_err-record_function-clause-setting g c = c.record_function.ensures.setting ∙ c.in_ok-index.ensures.setting

pub returns-clause-denotes : goal.returns-clause-denotes
returns-clause-denotes g c = denotes_as c.in_ok-index.ensures.denotes c.record_function.ensures.scope refl

pub returns-clause-grows : goal.returns-clause-grows
returns-clause-grows g c = longer_on c.in_ok-index.ensures.grows (longer_same c.record_function.ensures.scope)

pub returns-clause-setting : goal.returns-clause-setting
returns-clause-setting g c = c.record_function.ensures.setting ∙ c.in_ok-index.ensures.setting

pub returns-clause-follows : goal.returns-clause-follows
returns-clause-follows g c = g.E.ValtypeEncoder.follows_on _ _ _ c.in_ok-index.ensures.follows c.record_function.ensures.follows
