use Rattle.std.proofs.Common.{ap, subst, sym, List, Some}
use Rattle.std.specs.List.{AllByRecursion}
use Rattle.wit_data.specs.declared.types.TypeDef.{TypeDef}
use Rattle.wit_types.specs.Allowing.{MayEncode, is_allowed}
use Rattle.wit_types.specs.Maps.{key_params}
use Rattle.wit_types.proofs.Permitting.{params_may}
use Rattle.comp_trees.specs.DefinedTrees.{OfFunctions}
use Rattle.wit_types.proofs.Growing.{index_as}
use Rattle.wit_types.proofs.Calling.{key_is}
use Rattle.wit_types.proofs.Ordering.{may_add_as}
use Rattle.wit_types.proofs.calls.encode_func_type.Goals as goal

pub returns-clause-denotes : goal.returns-clause-denotes
returns-clause-denotes g c =
    index_as (g.E.ValtypeEncoder.scope c.encode_function.new.encoder) c.encode_function.result _ _ c.encode_function.ensures.denotes
    (ap OfFunctions (key_is (g.E.ValtypeEncoder.setting c.args.encoder.now) c.args.resolve.now.types c.args.function.now c.requires.same))

pub encode_function-requires-clause-params : goal.encode_function-requires-clause-params
encode_function-requires-clause-params g c =
    let s = g.E.ValtypeEncoder.setting c.args.encoder.now in
    subst (λ (ts : List TypeDef). AllByRecursion (λ p. MayEncode s ts (Some p.ty)) (key_params c.args.function.now.params)) (sym c.as_slice.ensures)
    (params_may s c.args.resolve.now.types c.args.function.now.params (is_allowed s c.args.function.now.result) c.requires.present.params c.requires.allowed)

pub returns-clause-adds : goal.returns-clause-adds
returns-clause-adds g c =
    may_add_as _ _ c.encode_function.result _ _ c.encode_function.ensures.adds
    (key_is (g.E.ValtypeEncoder.setting c.args.encoder.now) c.args.resolve.now.types c.args.function.now c.requires.same)
