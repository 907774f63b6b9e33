use Rattle.std.proofs.Common.{inl, ap, subst, sym, ◌∙◌, Some}
use Rattle.wit_types.specs.Maps.{key_of, key_tree}
use Rattle.wit_types.proofs.Ordering.{function_made}
use Rattle.wit_types.proofs.Growing.{longer_on, longer_same, denotes_as, index_as}
use Rattle.comp_trees.specs.DefinedTrees.{OfFunctions}
use Rattle.wit_types.specs.Settings.{Setting}
use Rattle.std.specs.List.{AllByRecursion}
use Rattle.wit_types.specs.Allowing.{MayEncode}
use Rattle.wit_types.specs.declared.maps.FuncTypeKey.{FuncTypeKey}
use Rattle.wit_types.proofs.functions.encode_function.Goals as goal

pub returns-in-Some-clause-adds : goal.returns-in-Some-clause-adds
returns-in-Some-clause-adds g c = inl c.met_function.ensures.scope

pub returns-in-None-clause-adds : goal.returns-in-None-clause-adds
returns-in-None-clause-adds g c =
    function_made _ _ _ (g.E.ValtypeEncoder.setting c.args.encoder.now) (g.E.ValtypeEncoder.setting c.met_function.new.encoder) c.in_ok-key.key (key_of c.args.function.now) c.encode_key.result
    c.encode_key.ensures.adds c.met_function.ensures.scope c.met_function.ensures.setting c.in_ok-key.ensures

pub encode_key-requires-clause-same : goal.encode_key-requires-clause-same
encode_key-requires-clause-same g c = ap (λ (s : Setting). s.types) c.met_function.ensures.setting ∙ c.requires.same

pub encode_key-requires-clause-params : goal.encode_key-requires-clause-params
encode_key-requires-clause-params g c =
    let t = g.E.ValtypeEncoder.setting c.met_function.new.encoder in
    subst (λ (k : FuncTypeKey). AllByRecursion (λ p. MayEncode t c.args.types.now (Some p.ty)) k.params) (sym c.in_ok-key.ensures)
    (subst (λ (s : Setting). AllByRecursion (λ p. MayEncode s c.args.types.now (Some p.ty)) (key_of c.args.function.now).params) (sym c.met_function.ensures.setting) c.requires.params)

pub encode_key-requires-clause-result : goal.encode_key-requires-clause-result
encode_key-requires-clause-result g c =
    let t = g.E.ValtypeEncoder.setting c.met_function.new.encoder in
    subst (λ (k : FuncTypeKey). MayEncode t c.args.types.now k.result) (sym c.in_ok-key.ensures)
    (subst (λ (s : Setting). MayEncode s c.args.types.now c.args.function.now.result) (sym c.met_function.ensures.setting) c.requires.result)

pub returns-in-Some-clause-denotes : goal.returns-in-Some-clause-denotes
returns-in-Some-clause-denotes g c =
    denotes_as c.in-Some.ensures.denotes c.met_function.ensures.scope (ap (λ (k : FuncTypeKey). OfFunctions (key_tree (g.E.ValtypeEncoder.setting c.args.encoder.now) k)) c.in_ok-key.ensures)

pub returns-in-None-clause-denotes : goal.returns-in-None-clause-denotes
returns-in-None-clause-denotes g c =
    index_as (g.E.ValtypeEncoder.scope c.encode_key.new.encoder) c.encode_key.result _ _ c.encode_key.ensures.denotes
    (ap (λ (s : Setting). OfFunctions (key_tree s c.in_ok-key.key)) c.met_function.ensures.setting
    ∙ ap (λ (k : FuncTypeKey). OfFunctions (key_tree (g.E.ValtypeEncoder.setting c.args.encoder.now) k)) c.in_ok-key.ensures)

pub returns-in-None-clause-grows : goal.returns-in-None-clause-grows
returns-in-None-clause-grows g c = longer_on (longer_same c.met_function.ensures.scope) c.encode_key.ensures.grows

pub returns-in-None-clause-setting : goal.returns-in-None-clause-setting
returns-in-None-clause-setting g c = c.encode_key.ensures.setting ∙ c.met_function.ensures.setting

pub returns-in-None-clause-follows : goal.returns-in-None-clause-follows
returns-in-None-clause-follows g c = g.E.ValtypeEncoder.follows_on _ _ _ c.met_function.ensures.follows c.encode_key.ensures.follows
