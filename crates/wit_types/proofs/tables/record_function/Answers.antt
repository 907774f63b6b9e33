use Rattle.wit_types.proofs.Growing.{key_faithful}
use Rattle.wit_types.proofs.tables.record_function.Goals as goal

pub returns-clause-faithful : goal.returns-clause-faithful
returns-clause-faithful g c =
    let e = c.args.encoder.now in
    let m = c.record_function.new.self in
    key_faithful c.record_function.result _ _ _ _ _ _ _ _ (g.E.ValtypeEncoder.maps e) c.type_encoding_maps.result.now m _ c.args.key c.args.index
    c.requires.faithful c.requires.denotes c.type_encoding_maps.ensures.now c.record_function.ensures.ok c.record_function.ensures.err
    (g.E.ValtypeEncoder.setting_kept e m) (g.E.ValtypeEncoder.scope_kept e m) (g.E.ValtypeEncoder.names_kept _ _ (g.E.ValtypeEncoder.follows_maps e m)) (g.E.ValtypeEncoder.offers_kept _ _ (g.E.ValtypeEncoder.follows_maps e m)) (g.E.ValtypeEncoder.maps_given e m)
