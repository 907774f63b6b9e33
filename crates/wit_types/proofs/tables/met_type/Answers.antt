use Rattle.std.proofs.Common.{ap, ◌∙◌}
use Rattle.std.specs.Map.{lookup}
use Rattle.wit_data.specs.contracts.ids.TypeIdPartialEq.TheImpl as id_eq
use Rattle.wit_types.specs.declared.maps.TypeEncodingMaps.{TypeEncodingMaps}
use Rattle.wit_types.proofs.Growing.{id_found, faithful_as, id_named, id_unmet}
use Rattle.wit_types.proofs.tables.met_type.Goals as goal

pub returns-clause-denotes : goal.returns-clause-denotes
returns-clause-denotes g c =
    id_found c.args.id c.type_index.result c.requires.faithful
    (c.type_index.ensures ∙ ap (λ (m : TypeEncodingMaps). lookup (id_eq.eq-value.it c.args.id) m.id_to_index) c.type_encoding_maps.ensures.now)

pub returns-clause-faithful : goal.returns-clause-faithful
returns-clause-faithful g c =
    let e = c.args.encoder.now in
    let m = c.type_encoding_maps.result.now in
    faithful_as _ _ _ _ _ _ _ _ _ _ c.requires.faithful (g.E.ValtypeEncoder.setting_kept e m) (g.E.ValtypeEncoder.scope_kept e m)
    (g.E.ValtypeEncoder.names_kept _ _ (g.E.ValtypeEncoder.follows_maps e m)) (g.E.ValtypeEncoder.offers_kept _ _ (g.E.ValtypeEncoder.follows_maps e m)) (g.E.ValtypeEncoder.maps_given e m ∙ c.type_encoding_maps.ensures.now)

pub returns-clause-named : goal.returns-clause-named
returns-clause-named g c =
    let e = c.args.encoder.now in
    let m = c.type_encoding_maps.result.now in
    id_named _ c.args.id c.type_index.result (g.E.ValtypeEncoder.names_kept _ _ (g.E.ValtypeEncoder.follows_maps e m)) c.requires.faithful
    (c.type_index.ensures ∙ ap (λ (n : TypeEncodingMaps). lookup (id_eq.eq-value.it c.args.id) n.id_to_index) c.type_encoding_maps.ensures.now)

pub returns-clause-unmet : goal.returns-clause-unmet
returns-clause-unmet g c none =
    id_unmet c.args.id c.type_index.result c.requires.faithful
    (c.type_index.ensures ∙ ap (λ (m : TypeEncodingMaps). lookup (id_eq.eq-value.it c.args.id) m.id_to_index) c.type_encoding_maps.ensures.now) none
