use Rattle.std.proofs.Common.{[], ap, sym, subst, None}
use Rattle.nested_components.specs.declared.stage.Stage.{Stage}
use Rattle.nested_components.specs.Growing.{scope_of, Grows}
use Rattle.nested_components.specs.Homes.{Home}
use Rattle.nested_components.proofs.ForeignTypes.{import_denotes, import_tables}
use Rattle.nested_components.proofs.OwnResources.{own_bound, own_grows}
use Rattle.nested_components.proofs.resources.record_resource.Goals as goal

pub record_type_index-requires-clause-faithful : goal.record_type_index-requires-clause-faithful
record_type_index-requires-clause-faithful g c =
    let given = g.P.Placement.given in
    let origin = g.P.Placement.origin in
    let e = c.args.encoder.now in
    let n = c.add_type_import.new.self in
    let t = c.args.import.now in
    let is = c.in_ok-index.ensures in
    import_tables given origin e.contents n.contents t None e.home.types (own_bound given origin e.home (scope_of given e.contents.items) t c.requires.back c.requires.own) is.imported
    n.home e.home n.stage e.stage e.maps n.maps (sym is.home) (sym is.stage) is.maps c.requires.right

pub record_type_index-requires-clause-denotes : goal.record_type_index-requires-clause-denotes
record_type_index-requires-clause-denotes g c =
    let given = g.P.Placement.given in
    let origin = g.P.Placement.origin in
    let e = c.args.encoder.now in
    let n = c.add_type_import.new.self in
    let t = c.args.import.now in
    let is = c.in_ok-index.ensures in
    import_denotes given origin e.contents n.contents t None e.home.types (own_bound given origin e.home (scope_of given e.contents.items) t c.requires.back c.requires.own) is.imported
    n.home.types (ap (λ (h : Home). h.types) is.home) c.in_ok-index.index is.index

pub returns-clause-grows : goal.returns-clause-grows
returns-clause-grows g c =
    let given = g.P.Placement.given in
    let origin = g.P.Placement.origin in
    let e = c.args.encoder.now in
    let n = c.add_type_import.new.self in
    let is = c.in_ok-index.ensures in
    let last = c.record_type_index.new.encoder in
    let behind = subst (λ (q : Stage). Grows given origin e.home q n.contents last.contents []) is.stage (subst (λ (h : Home). Grows given origin h n.stage n.contents last.contents []) is.home c.in_ok-record_type_index.ensures.follows.2) in
    own_grows given origin e.home e.stage e.contents n.contents last.contents c.args.import.now c.requires.back c.requires.stage c.requires.own is.imported behind
