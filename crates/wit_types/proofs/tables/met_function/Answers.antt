use Rattle.std.proofs.Common.{ap, ◌∙◌}
use Rattle.std.specs.Map.{lookup}
use Rattle.wit_types.specs.contracts.maps.FuncTypeKeyPartialEq.TheImpl as key_eq
use Rattle.wit_types.specs.declared.maps.TypeEncodingMaps.{TypeEncodingMaps}
use Rattle.wit_types.proofs.Growing.{function_found, faithful_as}
use Rattle.wit_types.proofs.tables.met_function.Goals as goal

pub returns-clause-denotes : goal.returns-clause-denotes
returns-clause-denotes g c =
    function_found c.args.key.now c.function_index.result c.requires.faithful
    (c.function_index.ensures ∙ ap (λ (m : TypeEncodingMaps). lookup (key_eq.eq-value.it c.args.key.now) m.func_type_map) c.type_encoding_maps.ensures.now)

pub returns-clause-faithful : goal.returns-clause-faithful
returns-clause-faithful g c =
    let e = c.args.encoder.now in
    let m = c.type_encoding_maps.result.now in
    faithful_as _ _ _ _ _ _ _ _ _ _ c.requires.faithful (g.E.ValtypeEncoder.setting_kept e m) (g.E.ValtypeEncoder.scope_kept e m)
    (g.E.ValtypeEncoder.names_kept _ _ (g.E.ValtypeEncoder.follows_maps e m)) (g.E.ValtypeEncoder.offers_kept _ _ (g.E.ValtypeEncoder.follows_maps e m)) (g.E.ValtypeEncoder.maps_given e m ∙ c.type_encoding_maps.ensures.now)
