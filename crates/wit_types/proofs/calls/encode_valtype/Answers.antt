use Rattle.std.proofs.Common.{Some}
use Rattle.wit_types.proofs.Growing.{result_as}
use Rattle.wit_types.proofs.Adding.{result_adds}
use Rattle.wit_types.proofs.Permitting.{same_tree}
use Rattle.wit_types.proofs.calls.encode_valtype.Goals as goal

pub returns-clause-value : goal.returns-clause-value
returns-clause-value g c =
    result_as (g.E.ValtypeEncoder.scope c.encode_type.new.encoder) c.encode_type.result _ _ c.encode_type.ensures.value
    (same_tree (g.E.ValtypeEncoder.setting c.args.encoder.now) c.args.resolve.now.types (Some c.args.ty.now) c.requires.same)

pub returns-clause-adds : goal.returns-clause-adds
returns-clause-adds g c =
    result_adds _ _ c.encode_type.result _ _ c.encode_type.ensures.adds
    (same_tree (g.E.ValtypeEncoder.setting c.args.encoder.now) c.args.resolve.now.types (Some c.args.ty.now) c.requires.same)
