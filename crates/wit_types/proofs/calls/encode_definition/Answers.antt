use Rattle.std.proofs.Common.{ap, Some}
use Rattle.wit_data.specs.declared.types.Type.TheVariants.{Id}
use Rattle.comp_trees.specs.DefinedTrees.{OfValues}
use Rattle.wit_types.proofs.Growing.{index_as}
use Rattle.wit_types.proofs.Adding.{result_adds}
use Rattle.wit_types.proofs.Permitting.{same_tree}
use Rattle.wit_types.proofs.calls.encode_definition.Goals as goal

pub returns-clause-denotes : goal.returns-clause-denotes
returns-clause-denotes g c =
    index_as (g.E.ValtypeEncoder.scope c.define_unnamed.new.encoder) c.define_unnamed.result _ _ c.define_unnamed.ensures.denotes
    (ap OfValues (same_tree (g.E.ValtypeEncoder.setting c.args.encoder.now) c.args.resolve.now.types (Some (Id c.args.id)) c.requires.same))

pub returns-clause-adds : goal.returns-clause-adds
returns-clause-adds g c =
    result_adds _ _ c.define_unnamed.result _ _ c.define_unnamed.ensures.adds
    (same_tree (g.E.ValtypeEncoder.setting c.args.encoder.now) c.args.resolve.now.types (Some (Id c.args.id)) c.requires.same)
