use Rattle.std.proofs.Common.{ap, ◌∙◌}
use Rattle.comp_trees.specs.Trees.{is_known_function}
use Rattle.comp_trees.specs.DefinedTrees.{OfFunctions}
use Rattle.wit_types.proofs.Growing.{faithful_then, made_as}
use Rattle.wit_types.proofs.Adding.{made_as_one}
use Rattle.wit_types.proofs.Calling.{function_stands, function_is}
use Rattle.wit_types.proofs.Knowing.{key_known}
use Rattle.wit_types.proofs.functions.define_made.Goals as goal

pub define_function_type-requires-clause-present : goal.define_function_type-requires-clause-present
define_function_type-requires-clause-present g c =
    function_stands (g.E.ValtypeEncoder.setting c.args.encoder.now) (g.E.ValtypeEncoder.scope c.args.encoder.now) c.args.key.now c.args.params c.args.returned c.requires.params c.requires.result

pub define_function_type-requires-clause-known : goal.define_function_type-requires-clause-known
define_function_type-requires-clause-known g c =
    ap is_known_function (function_is (g.E.ValtypeEncoder.setting c.args.encoder.now) (g.E.ValtypeEncoder.scope c.args.encoder.now) c.args.key.now c.args.params c.args.returned c.requires.params c.requires.result)
    ∙ key_known (g.E.ValtypeEncoder.setting c.args.encoder.now) c.args.key.now

pub returns-clause-faithful : goal.returns-clause-faithful
returns-clause-faithful g c = faithful_then _ _ _ _ _ _ _ _ _ _ c.define_function_type.result _ c.requires.faithful c.define_function_type.ensures.makes c.define_function_type.ensures.setting c.define_function_type.ensures.maps (g.E.ValtypeEncoder.names_kept _ _ c.define_function_type.ensures.follows) (g.E.ValtypeEncoder.offers_kept _ _ c.define_function_type.ensures.follows)

pub returns-clause-denotes : goal.returns-clause-denotes
returns-clause-denotes g c =
    made_as _ _ c.define_function_type.result _ _ c.define_function_type.ensures.makes
    (ap OfFunctions (function_is (g.E.ValtypeEncoder.setting c.args.encoder.now) (g.E.ValtypeEncoder.scope c.args.encoder.now) c.args.key.now c.args.params c.args.returned c.requires.params c.requires.result))

pub returns-clause-adds : goal.returns-clause-adds
returns-clause-adds g c =
    made_as_one _ _ c.define_function_type.result _ _ c.define_function_type.ensures.makes
    (ap OfFunctions (function_is (g.E.ValtypeEncoder.setting c.args.encoder.now) (g.E.ValtypeEncoder.scope c.args.encoder.now) c.args.key.now c.args.params c.args.returned c.requires.params c.requires.result))
