use Rattle.wit_types.proofs.Growing.{recorded_there, recorded_faithful, named_on}
use Rattle.wit_types.proofs.tables.record_type.Goals as goal

pub returns-clause-recorded : goal.returns-clause-recorded
returns-clause-recorded g c =
    recorded_there c.record_type.result c.type_encoding_maps.result.now c.record_type.new.self _ c.args.id c.args.index c.record_type.ensures.ok
    (g.E.ValtypeEncoder.maps_given c.args.encoder.now c.record_type.new.self)

pub returns-clause-faithful : goal.returns-clause-faithful
returns-clause-faithful g c =
    let e = c.args.encoder.now in
    let m = c.record_type.new.self in
    recorded_faithful c.record_type.result _ _ _ _ _ _ _ _ (g.E.ValtypeEncoder.maps e) c.type_encoding_maps.result.now m _ c.args.id c.args.index
    c.requires.faithful c.requires.denotes c.requires.named c.type_encoding_maps.ensures.now c.record_type.ensures.ok c.record_type.ensures.err
    (g.E.ValtypeEncoder.setting_kept e m) (g.E.ValtypeEncoder.scope_kept e m) (g.E.ValtypeEncoder.names_kept _ _ (g.E.ValtypeEncoder.follows_maps e m)) (g.E.ValtypeEncoder.offers_kept _ _ (g.E.ValtypeEncoder.follows_maps e m)) (g.E.ValtypeEncoder.maps_given e m)

pub returns-clause-named : goal.returns-clause-named
returns-clause-named g c =
    let e = c.args.encoder.now in
    let m = c.record_type.new.self in
    named_on _ _ _ c.args.id c.args.index (g.E.ValtypeEncoder.names_kept _ _ (g.E.ValtypeEncoder.follows_maps e m)) c.requires.named
