use Rattle.std.proofs.Common.{◌∙◌, List, Some, ap, subst, sym}
use Rattle.wit_types.proofs.Calling.{fields_on}
use Rattle.wit_types.proofs.Ordering.{function_added}
use Rattle.wit_types.proofs.Growing.{longer_on, index_as}
use Rattle.comp_trees.specs.DefinedTrees.{OfFunctions}
use Rattle.std.specs.List.{AllByRecursion}
use Rattle.wit_types.specs.Settings.{Setting}
use Rattle.wit_data.specs.declared.types.Field.{Field as WitField}
use Rattle.wit_types.specs.Allowing.{MayEncode}
use Rattle.wit_types.specs.Definitions.{PartDenotes}
use Rattle.wit_types.specs.Maps.{key_tree}
use Rattle.wit_types.proofs.functions.define_function.Goals as goal

pub define_made-requires-clause-params : goal.define_made-requires-clause-params
define_made-requires-clause-params g c =
    fields_on _ _ _ _ c.in_ok-params.params c.as_slice.result.now c.args.key.now.params
    c.in_ok-returned.ensures.grows (c.in_ok-returned.ensures.setting ∙ c.in_ok-params.ensures.setting) c.as_slice.ensures c.in_ok-params.ensures.fields

pub returns-clause-follows : goal.returns-clause-follows
returns-clause-follows g c =
    g.E.ValtypeEncoder.follows_on _ _ _ c.in_ok-params.ensures.follows
    (g.E.ValtypeEncoder.follows_on _ _ _ c.in_ok-returned.ensures.follows c.define_made.ensures.follows)

pub returns-in_err-returned-clause-follows : goal.returns-in_err-returned-clause-follows
returns-in_err-returned-clause-follows g c = g.E.ValtypeEncoder.follows_on _ _ _ c.in_ok-params.ensures.follows c.encode_payload.ensures.follows

pub returns-clause-adds : goal.returns-clause-adds
returns-clause-adds g c =
    function_added (g.E.ValtypeEncoder.setting c.args.encoder.now) _ _ _ _ _ _ c.args.key.now c.as_slice.result.now c.define_made.result
    c.in_ok-params.ensures.adds c.as_slice.ensures c.in_ok-returned.ensures.adds c.in_ok-params.ensures.setting
    c.define_made.ensures.adds (c.in_ok-returned.ensures.setting ∙ c.in_ok-params.ensures.setting)

pub encode_params-requires-clause-params : goal.encode_params-requires-clause-params
encode_params-requires-clause-params g c =
    subst (λ (ps : List WitField). AllByRecursion (λ p. MayEncode (g.E.ValtypeEncoder.setting c.args.encoder.now) c.args.types.now (Some p.ty)) ps) (sym c.as_slice.ensures) c.requires.params

pub encode_payload-requires-clause-same : goal.encode_payload-requires-clause-same
encode_payload-requires-clause-same g c = ap (λ (s : Setting). s.types) c.in_ok-params.ensures.setting ∙ c.requires.same

pub encode_payload-requires-clause-part : goal.encode_payload-requires-clause-part
encode_payload-requires-clause-part g c = subst (λ (s : Setting). MayEncode s c.args.types.now c.args.key.now.result) (sym c.in_ok-params.ensures.setting) c.requires.result

pub define_made-requires-clause-result : goal.define_made-requires-clause-result
define_made-requires-clause-result g c =
    subst (λ (s : Setting). PartDenotes s (g.E.ValtypeEncoder.scope c.encode_payload.new.encoder) c.in_ok-returned.returned c.args.key.now.result) (sym c.in_ok-returned.ensures.setting) c.in_ok-returned.ensures.value

pub returns-in_err-returned-clause-grows : goal.returns-in_err-returned-clause-grows
returns-in_err-returned-clause-grows g c = longer_on c.in_ok-params.ensures.grows c.encode_payload.ensures.grows

pub returns-in_err-returned-clause-setting : goal.returns-in_err-returned-clause-setting
returns-in_err-returned-clause-setting g c = c.encode_payload.ensures.setting ∙ c.in_ok-params.ensures.setting

pub returns-clause-grows : goal.returns-clause-grows
returns-clause-grows g c = longer_on (longer_on c.in_ok-params.ensures.grows c.in_ok-returned.ensures.grows) c.define_made.ensures.grows

pub returns-clause-setting : goal.returns-clause-setting
returns-clause-setting g c = c.define_made.ensures.setting ∙ (c.in_ok-returned.ensures.setting ∙ c.in_ok-params.ensures.setting)

pub returns-clause-denotes : goal.returns-clause-denotes
returns-clause-denotes g c =
    index_as (g.E.ValtypeEncoder.scope c.define_made.new.encoder) c.define_made.result _ _ c.define_made.ensures.denotes
    (ap (λ (s : Setting). OfFunctions (key_tree s c.args.key.now)) (c.in_ok-returned.ensures.setting ∙ c.in_ok-params.ensures.setting))
